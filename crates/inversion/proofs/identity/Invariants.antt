-- The loop's invariant: the first r rows are done, and what follows is as it was. Assumes nothing.
use mathlib.Core.Path.{◌≡◌}
use Prim.Native.Nat.{◌+◌, ◌-◌, ◌*◌, ◌≤◌}
use lib.ListN.{length, drop}
use Rattle.bits.specs.Bits.{bytes_for}
use Rattle.code.specs.Lock.{rows_of}
use Rattle.inversion.specs.Inversion.{pair_bits, beside_rows}
use Rattle.inversion.proofs.identity.Given as goal

abbrev pub invariant-loop-r : goal.invariant-loop-r
invariant-loop-r l =
    (l.r ≤ l.rows) × (l.at ≡ l.r * (bytes_for l.rows + bytes_for l.rows) + bytes_for l.rows) × (length l.w ≡ length l.initial.w)
    × (rows_of l.r (pair_bits l.rows) l.w ≡ beside_rows l.rows l.r l.initial.w)
    × (drop (l.r * (bytes_for l.rows + bytes_for l.rows)) l.w ≡ drop (l.r * (bytes_for l.rows + bytes_for l.rows)) l.initial.w) × (l.b ≡ bytes_for l.rows)

abbrev pub decreases-loop-r : goal.decreases-loop-r
decreases-loop-r l = l.rows - l.r
