-- `transform::everywhere::depth` meets its contract. Assumes nothing.
use mathlib.Core.Path.{◌≡◌}
use Prim.Native.Nat.{ℕ, ◌-◌, ◌^◌, ◌≤◌}
use Rattle.transform.proofs.everywhere.depth.Given as goal

abbrev pub invariant-loop-w : goal.invariant-loop-w
invariant-loop-w l = (l.w ≡ 2 ^ l.k) × (l.k ≤ 9) × ((j : ℕ) → l.n ≤ 2 ^ j → l.k ≤ j)

abbrev pub decreases-loop-w : goal.decreases-loop-w
decreases-loop-w l = l.n - l.w
