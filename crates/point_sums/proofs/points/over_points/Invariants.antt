-- The loop's invariant: the sums over the first points, up to `at`. Assumes nothing.
use mathlib.Core.Path.{◌≡◌}
use Prim.Native.Nat.{◌-◌, ◌≤◌}
use lib.ListN.{length, take}
use Rattle.bits.specs.Bits.{padded}
use Rattle.point_sums.specs.Weighted.{weighted_sums}
use Rattle.point_sums.proofs.points.over_points.Given as goal

abbrev pub invariant-loop-at : goal.invariant-loop-at
invariant-loop-at l = (l.at ≤ l.n) × (length l.s ≡ 256) × (l.s ≡ padded 256 (weighted_sums l.m l.k (take l.at l.w) (take l.at l.points)))

abbrev pub decreases-loop-at : goal.decreases-loop-at
decreases-loop-at l = l.n - l.at
