-- The loop's invariant: the first i bytes are the lane's. Assumes nothing.
use mathlib.Core.Path.{◌≡◌}
use Prim.Native.Nat.{◌-◌, ◌≤◌}
use lib.ListN.{length, take}
use Rattle.bits.specs.Bits.{over}
use Rattle.keccak.specs.Lanes.{lane_bytes}
use Rattle.shake.proofs.write_lane.Given as goal

abbrev pub invariant-loop-i : goal.invariant-loop-i
invariant-loop-i l = (l.i ≤ length l.initial.out) × (length l.out ≡ length l.initial.out) × (l.out ≡ over (take l.i (lane_bytes (length l.initial.out) l.v)) l.initial.out)

abbrev pub decreases-loop-i : goal.decreases-loop-i
decreases-loop-i l = length l.initial.out - l.i
