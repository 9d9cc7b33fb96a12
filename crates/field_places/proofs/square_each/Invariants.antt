-- The loop's invariant: the first `at` places are done. Assumes nothing.
use mathlib.Core.Path.{◌≡◌}
use Prim.Native.Nat.{ℕ, ◌-◌, ◌≤◌}
use lib.ListN.{length}
use Rattle.field.specs.Field.{mul}
use Rattle.field_places.proofs.Blocks.{mapped_to}
use Rattle.field_places.proofs.square_each.Given as goal

abbrev pub square : ℕ → ℕ → ℕ
square m a = mul m a a

abbrev pub invariant-loop-at : goal.invariant-loop-at
invariant-loop-at l = (l.at ≤ l.n) × (length l.v ≡ l.n) × (l.v ≡ mapped_to (square l.m) l.initial.v l.at)

abbrev pub decreases-loop-at : goal.decreases-loop-at
decreases-loop-at l = l.n - l.at
