-- The loop's invariant: the bits from 8·q on are left to write. Assumes nothing.
use mathlib.Core.Path.{◌≡◌}
use mathlib.Core.List.{map}
use Prim.Native.Nat.{◌-◌, ◌*◌, ◌≤◌}
use lib.ListN.{length, drop}
use Rattle.bits.specs.Bits.{from, bit_at, put_bits}
use Rattle.packed.proofs.copy_row.Given as goal

abbrev pub invariant-loop-q : goal.invariant-loop-q
invariant-loop-q l =
    (l.q ≤ l.whole) × (length l.out ≡ length l.initial.out)
    × (put_bits (drop (8 * l.q) (map (bit_at l.s) (from l.b l.w))) (8 * l.q) l.out ≡ put_bits (map (bit_at l.s) (from l.b l.w)) 0 l.initial.out)

abbrev pub decreases-loop-q : goal.decreases-loop-q
decreases-loop-q l = l.whole - l.q
