-- The loop's invariant: the places from i on decide. Assumes nothing.
use mathlib.Core.Path.{refl, ap, ◌∙◌}
use mathlib.Core.Bool.{not}
use native.Mathlib.Omega.{arith}
use borrow.Author.Tests.{eq-eqb, ne_eqb}
use lib.Dec.{eqb}
use Rattle.bits.proofs.Lists.{every-next, every_stop, every_end}
use Rattle.key.proofs.checks.no_zero.Goals as goal

pub loop-i-init : goal.loop-i-init
loop-i-init c = refl

pub returns-then-s-i-eq0 : goal.returns-then-s-i-eq0
returns-then-s-i-eq0 c =
    let l = c.loop-i in
    let s = c.args.s.now in
    every_stop (λ x. not (eqb x 0)) s l.i (omega arith) (ap not (eq-eqb _ 0 c.if-s-i-eq0.true)) ∙ l.invariant

pub loop-i-preserved : goal.loop-i-preserved
loop-i-preserved c =
    let l = c.loop-i in
    let s = c.args.s.now in
    every-next (λ x. not (eqb x 0)) s l.i (omega arith) (ap not (ne_eqb _ 0 c.if-s-i-eq0.false)) ∙ l.invariant

pub returns : goal.returns
returns c = let l = c.loop-i in every_end (λ x. not (eqb x 0)) _ l.i c.loop-i-test.false ∙ l.invariant
