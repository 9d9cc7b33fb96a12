-- `levels::bases::points` meets its contract. Assumes nothing.
use mathlib.Core.Path.{◌≡◌}
use Prim.Native.Nat.{◌-◌, ◌^◌, ◌≤◌}
use lib.ListN.{length, take}
use Rattle.levels.specs.Levels.{points_of}
use Rattle.levels.proofs.bases.points.Given as goal

abbrev pub invariant-loop-j : goal.invariant-loop-j
invariant-loop-j l = (l.j ≤ l.n) × (l.w ≡ 2 ^ l.j) × (length l.g ≡ length l.initial.g) × (take (2 ^ l.j) l.g ≡ points_of l.j l.b)

abbrev pub decreases-loop-j : goal.decreases-loop-j
decreases-loop-j l = l.n - l.j
