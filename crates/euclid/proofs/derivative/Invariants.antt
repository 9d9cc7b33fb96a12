-- The loop's invariant: the first k coefficients of the derivative, and the rest of p. Assumes nothing.
use mathlib.Core.Path.{◌≡◌}
use Prim.Native.Nat.{◌-◌, ◌≤◌}
use lib.ListN.{length}
use Rattle.euclid.proofs.Coefficients.{derived}
use Rattle.euclid.proofs.derivative.Given as goal

abbrev pub invariant-loop-k : goal.invariant-loop-k
invariant-loop-k l = (l.k ≤ length l.initial.p) × (length l.p ≡ length l.initial.p) × (l.p ≡ derived l.initial.p l.k)

abbrev pub decreases-loop-k : goal.decreases-loop-k
decreases-loop-k l = length l.initial.p - l.k
