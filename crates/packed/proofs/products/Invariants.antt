-- The loop's invariant: the first k products are the digits of d. Assumes nothing.
use mathlib.Core.Path.{◌≡◌}
use mathlib.Core.List.{map}
use Prim.Native.Nat.{◌*◌, ◌-◌, ◌≤◌}
use Rattle.bits.specs.Bits.{from, bit_at, number}
use Rattle.packed.proofs.products.Given as goal

abbrev pub invariant-loop-k : goal.invariant-loop-k
invariant-loop-k l = (l.k ≤ 8) × (l.d ≡ number (map (λ i. bit_at l.row i * bit_at l.pat i) (from 0 l.k)))

abbrev pub decreases-loop-k : goal.decreases-loop-k
decreases-loop-k l = 8 - l.k
