-- The loop's invariant: the bits from j on are left to write. Assumes nothing.
use mathlib.Core.Path.{◌≡◌}
use mathlib.Core.List.{map}
use Prim.Native.Nat.{◌-◌, ◌≤◌}
use lib.ListN.{drop}
use Rattle.bits.specs.Bits.{from, bit_at, put_bits}
use Rattle.packed.proofs.copy_bits.Given as goal

abbrev pub invariant-loop-j : goal.invariant-loop-j
invariant-loop-j l =
    (l.j ≤ l.w) × (put_bits (drop l.j (map (bit_at l.s) (from l.b l.w))) l.j l.out ≡ put_bits (map (bit_at l.s) (from l.b l.w)) 0 l.initial.out)

abbrev pub decreases-loop-j : goal.decreases-loop-j
decreases-loop-j l = l.w - l.j
