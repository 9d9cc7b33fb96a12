-- The loop's invariant: what is left, the first i bytes moved up, gives the whole. Assumes nothing.
use mathlib.Core.Path.{◌≡◌}
use Prim.Native.Nat.{◌≤◌}
use lib.ListN.{length}
use Rattle.elimination.specs.Elimination.{moved_up}
use Rattle.elimination.proofs.move_up.Given as goal

abbrev pub invariant-loop-i : goal.invariant-loop-i
invariant-loop-i l = (l.i ≤ l.k) × (length l.w ≡ length l.initial.w) × (moved_up l.i l.b l.w ≡ moved_up l.k l.b l.initial.w)

abbrev pub decreases-loop-i : goal.decreases-loop-i
decreases-loop-i l = l.i
