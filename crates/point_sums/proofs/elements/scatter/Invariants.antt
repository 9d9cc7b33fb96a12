-- The loop's invariant: with the weights from i on added, d is the whole. Assumes nothing.
use mathlib.Core.Path.{◌≡◌}
use Prim.Native.Nat.{◌-◌, ◌≤◌}
use lib.ListN.{length, drop}
use Rattle.point_sums.specs.Parts.{added_at, scattered}
use Rattle.point_sums.proofs.elements.scatter.Given as goal

abbrev pub invariant-loop-i : goal.invariant-loop-i
invariant-loop-i l = (l.i ≤ l.n) × (length l.d ≡ 8192)
    × (added_at l.m l.d (drop l.i l.w) (drop l.i l.points) ≡ scattered l.m l.w l.points)

abbrev pub decreases-loop-i : goal.decreases-loop-i
decreases-loop-i l = l.n - l.i
