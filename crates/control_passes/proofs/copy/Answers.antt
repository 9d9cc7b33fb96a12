-- The loop's invariant: the first x numbers are copied. Assumes nothing.
use mathlib.Core.Path.{refl}
use native.Mathlib.Omega.{arith}
use lib.ListN.{length-set}
use Rattle.control_passes.proofs.Tabs.{tab_set}
use Rattle.control_passes.proofs.copy.Goals as goal

pub loop-x-init : goal.loop-x-init
loop-x-init c = (omega arith, omega arith, λ x h. absurd (omega arith))

pub loop-x-preserved : goal.loop-x-preserved
loop-x-preserved c =
    let l = c.loop-x in
    (omega arith, simp length-set (omega arith), tab_set l.dst _ l.x _ (omega arith) refl l.invariant.2)

pub returns : goal.returns
returns c = λ i h. c.loop-x.invariant.2 i (omega arith)
