-- The loop's invariant: the places from i on decide. Assumes nothing.
use mathlib.Core.Path.{refl, ◌∙◌}
use native.Mathlib.Omega.{arith}
use Rattle.decoding.proofs.Scan.{same_next, same_stop, same_end}
use Rattle.decoding.proofs.sums.same.Goals as goal

pub loop-i-init : goal.loop-i-init
loop-i-init c = refl

pub returns-then-a-i : goal.returns-then-a-i
returns-then-a-i c = let l = c.loop-i in same_stop _ _ l.i (omega arith) (omega arith) c.if-a-i.true ∙ l.invariant

pub loop-i-preserved : goal.loop-i-preserved
loop-i-preserved c = let l = c.loop-i in same_next _ _ l.i (omega arith) (omega arith) c.if-a-i.false ∙ l.invariant

pub returns : goal.returns
returns c = let l = c.loop-i in same_end _ _ l.i (omega arith) (omega arith) ∙ l.invariant
