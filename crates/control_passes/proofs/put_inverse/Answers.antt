-- The loop's invariant: the first i numbers are inverted. Assumes nothing.
use mathlib.Core.Path.{refl}
use native.Mathlib.Omega.{arith}
use lib.ListN.{length-set}
use Rattle.control_passes.proofs.Tabs.{at_below, invert_step, inverted}
use Rattle.control_passes.proofs.put_inverse.Goals as goal

pub loop-i-init : goal.loop-i-init
loop-i-init c = (omega arith, refl, λ k h. absurd (omega arith))

pub offset_bounds-inv-v : goal.offset_bounds-inv-v
offset_bounds-inv-v c = let b = at_below c.requires.each c.loop-i.i (omega arith) in omega arith

pub bounds-inv-v : goal.bounds-inv-v
bounds-inv-v c = let b = at_below c.requires.each c.loop-i.i (omega arith) in omega arith

pub loop-i-preserved : goal.loop-i-preserved
loop-i-preserved c =
    let l = c.loop-i in (
      omega arith,
      simp length-set (omega arith),
      invert_step c.args.pi.now l.inv l.i c.wide-v.result c.requires.each (omega arith) (omega arith) c.wide-v.ensures l.invariant.2,
    )

pub returns : goal.returns
returns c = inverted c.args.pi.now c.loop-i.inv c.requires.each (λ k h. c.loop-i.invariant.2 k (omega arith))
