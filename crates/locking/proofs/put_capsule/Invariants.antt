-- The loop's invariant: the bits from r on are left to write. Assumes nothing.
use mathlib.Core.Path.{◌≡◌}
use mathlib.Core.List.{map}
use Prim.Native.Nat.{◌-◌, ◌*◌, ◌≤◌}
use lib.ListN.{length, drop}
use Rattle.bits.specs.Bits.{from, bytes_for, put_bits}
use Rattle.locking.specs.Locking.{capsule_bit}
use Rattle.locking.proofs.put_capsule.Given as goal

abbrev pub invariant-loop-r : goal.invariant-loop-r
invariant-loop-r l =
    (l.r ≤ l.rows) × (l.at ≡ l.r * bytes_for l.w) × (l.at ≤ length l.public)
    × (put_bits (drop l.r (map (capsule_bit l.w l.rows l.public l.pattern) (from 0 l.rows))) l.r l.out ≡ put_bits (map (capsule_bit l.w l.rows l.public l.pattern) (from 0 l.rows)) 0 l.initial.out)

abbrev pub decreases-loop-r : goal.decreases-loop-r
decreases-loop-r l = l.rows - l.r
