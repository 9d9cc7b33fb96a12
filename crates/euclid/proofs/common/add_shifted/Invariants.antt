-- The loop's invariant: the coefficients below k are done. Assumes nothing.
use mathlib.Core.Path.{◌≡◌}
use Prim.Native.Nat.{◌-◌, ◌≤◌}
use Rattle.euclid.specs.Euclid.{added}
use Rattle.euclid.proofs.common.add_shifted.Given as goal

abbrev pub invariant-loop-k : goal.invariant-loop-k
invariant-loop-k l = (l.y ≤ l.k) × (l.k ≤ l.n) × (l.r ≡ added l.y l.k l.initial.r l.b)

abbrev pub decreases-loop-k : goal.decreases-loop-k
decreases-loop-k l = l.n - l.k
