-- `levels::bases::ratios` meets its contract: the inverse is not refused, since the number behind the first n is a unit. Assumes nothing.
use mathlib.Core.Path.{◌≡◌, ap, ◌∙◌}
use Prim.Native.Nat.{ℕ}
use native.Mathlib.Omega.{arith}
use lib.ListN.{length, length-set}
use borrow.Author.Rules.{rules}
use Rattle.bits.specs.Bits.{each_with, from}
use Rattle.field.specs.Field.{mul}
use Rattle.field.proofs.Units.{inverse_given, inverse_not_refused}
use Rattle.levels.specs.Levels.{ratios}
use Rattle.levels.proofs.Loops.{each_start, each_next, each_all}
use Rattle.levels.proofs.bases.ratios.Goals as goal

pub returns-in_default : goal.returns-in_default
returns-in_default c = absurd (inverse_not_refused _ _ c.requires.0 c.requires.2 c.inverse-d.ensures c.in_default.is)

pub loop-i-init : goal.loop-i-init
loop-i-init c =
    let a = c.args in
    (omega arith, search rules, each_start _ a.n a.b)

pub loop-i-preserved : goal.loop-i-preserved
loop-i-preserved c =
    let l = c.loop-i in
    let a = c.args in
    let e : length a.b ≡ 16 = search rules in
    (omega arith, simp length-set l.invariant.1, each_next _ a.n a.b l.i l.r _ l.invariant.2 (omega arith) (omega arith) c.times.ensures)

pub returns : goal.returns
unfolding ratios
returns c =
    let a = c.args in
    c.loop-i.invariant.2 ∙ each_all _ a.n a.b c.loop-i.i (omega arith)
    ∙ ap (λ (d : ℕ). each_with (λ x j. mul a.m x d) a.b (from 0 a.n)) (inverse_given _ _ c.inverse-d.ensures c.in-Value.is)
