-- The invariant: the number of what is left, behind the digits read, is the field's. Assumes nothing.
use mathlib.Core.Path.{sym, ap, ◌∙◌}
use Prim.Native.Nat.{ℕ}
use native.Mathlib.Omega.{arith}
use lib.ListN.{drop}
use Rattle.vectors.specs.Lines.{decimal_from, number_of, field_of}
use Rattle.vectors.proofs.Fields.{number_end, number_stop, number-next}
use Rattle.vectors.proofs.line.number_of.Goals as goal

pub loop-i-init : goal.loop-i-init
unfolding number_of field_of
loop-i-init c =
    let s = c.start-i.ensures in
    (omega (arith, s.within), ap (λ (i : ℕ). decimal_from 0 (drop i c.args.line.now)) s.place)

pub returns-then-line-i-eq32 : goal.returns-then-line-i-eq32
returns-then-line-i-eq32 c =
    let l = c.loop-i in
    let a = c.args in
    sym (number_stop a.line.now l.i l.x (omega arith) c.if-line-i-eq32.true) ∙ l.invariant.1

pub loop-i-preserved : goal.loop-i-preserved
loop-i-preserved c =
    let l = c.loop-i in
    let a = c.args in
    (omega arith, sym (number-next a.line.now l.i l.x (omega arith) c.if-line-i-eq32.false c.digit.ensures.value) ∙ l.invariant.1)

pub returns : goal.returns
returns c =
    let l = c.loop-i in
    let a = c.args in
    sym (number_end a.line.now l.i l.x c.loop-i-test.false) ∙ l.invariant.1
