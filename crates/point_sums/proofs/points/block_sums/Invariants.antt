-- The loop's invariant: the first j sums are added, and p has the terms of the sum j. Assumes nothing.
use mathlib.Core.Path.{◌≡◌}
use Prim.Native.Nat.{◌-◌, ◌≤◌}
use lib.ListN.{length}
use Rattle.point_sums.proofs.Blocks.{terms, added_to}
use Rattle.point_sums.proofs.points.block_sums.Given as goal

abbrev pub invariant-loop-j : goal.invariant-loop-j
invariant-loop-j l = (l.j ≤ l.k) × (length l.s ≡ length l.initial.s) × (length l.p ≡ 64)
    × (l.s ≡ added_to l.m l.w l.points l.k l.initial.s l.j) × (l.p ≡ terms l.m l.w l.points l.j)

abbrev pub decreases-loop-j : goal.decreases-loop-j
decreases-loop-j l = l.k - l.j
