-- The loop's invariant: d, with the numbers from i on, is the whole sum. Assumes nothing.
use mathlib.Core.Path.{sym, ◌∙◌}
use native.Mathlib.Omega.{arith}
use Rattle.bits.specs.Xor.{◌⊕◌}
use Rattle.point_sums.proofs.Blocks.{rest_start, rest_next, rest_end}
use Rattle.point_sums.proofs.points.total.Goals as goal

pub loop-i-init : goal.loop-i-init
loop-i-init c = (omega arith, rest_start _)

pub loop-i-preserved : goal.loop-i-preserved
unfolding ◌⊕◌
loop-i-preserved c = let l = c.loop-i in (omega arith, rest_next _ l.d l.i (omega arith) ∙ l.invariant.1)

pub returns : goal.returns
returns c = sym (rest_end _ _ _ c.loop-i-test.false) ∙ c.loop-i.invariant.1
