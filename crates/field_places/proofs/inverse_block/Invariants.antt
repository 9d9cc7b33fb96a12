-- The loop's invariant: v is x^(2^k - 2) for each x of the block, which a starts with. Assumes nothing.
use mathlib.Core.Path.{◌≡◌}
use mathlib.Core.List.{map}
use Prim.Native.Nat.{◌-◌, ◌≤◌, ◌<◌}
use lib.ListN.{length, take}
use Rattle.field.proofs.Reciprocals.{even_power}
use Rattle.field_places.proofs.inverse_block.Given as goal

abbrev pub invariant-loop-k : goal.invariant-loop-k
invariant-loop-k l = (0 < l.k) × (l.k ≤ l.m) × (length l.v ≤ 512) × (l.v ≡ map (even_power l.m l.k) (take (length l.initial.v) l.a))

abbrev pub decreases-loop-k : goal.decreases-loop-k
decreases-loop-k l = l.m - l.k
