-- The loop's invariant: the values at the first places, up to `at`. Assumes nothing.
use mathlib.Core.Path.{◌≡◌}
use Prim.Native.Nat.{◌-◌, ◌≤◌}
use lib.ListN.{length}
use Rattle.poly.proofs.AtPoints.{values_to}
use Rattle.poly.proofs.horner.value_each.Given as goal

abbrev pub invariant-loop-at : goal.invariant-loop-at
invariant-loop-at l = (l.at ≤ l.n) × (length l.r ≡ length l.initial.r) × (l.r ≡ values_to l.m l.g l.initial.r l.points l.at)

abbrev pub decreases-loop-at : goal.decreases-loop-at
decreases-loop-at l = l.n - l.at
