-- The loop's invariant: the first `at` places are done. Assumes nothing.
use mathlib.Core.Path.{◌≡◌}
use Prim.Native.Nat.{◌-◌, ◌≤◌}
use lib.ListN.{length}
use Rattle.field.specs.Field.{inv}
use Rattle.field_places.proofs.Blocks.{mapped_to}
use Rattle.field_places.proofs.inverse_each.Given as goal

abbrev pub invariant-loop-at : goal.invariant-loop-at
invariant-loop-at l = (l.at ≤ l.n) × (length l.v ≡ l.n) × (l.v ≡ mapped_to (inv l.m) l.initial.v l.at)

abbrev pub decreases-loop-at : goal.decreases-loop-at
decreases-loop-at l = l.n - l.at
