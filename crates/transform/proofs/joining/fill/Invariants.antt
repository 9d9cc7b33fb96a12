-- `transform::joining::fill` meets its contract. Assumes nothing.
use mathlib.Core.Path.{◌≡◌}
use Prim.Native.Nat.{◌-◌, ◌≤◌}
use lib.ListN.{length, take}
use Rattle.bits.specs.Bits.{over}
use lib.ListN.{replicate}
use Rattle.transform.proofs.joining.fill.Given as goal

abbrev pub invariant-loop-i : goal.invariant-loop-i
invariant-loop-i l = (l.i ≤ length l.initial.d) × (length l.d ≡ length l.initial.d) × (l.d ≡ over (take l.i (replicate (length l.initial.d) l.x)) l.initial.d)

abbrev pub decreases-loop-i : goal.decreases-loop-i
decreases-loop-i l = length l.initial.d - l.i
