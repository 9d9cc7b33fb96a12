-- The loop's invariant: the first d rows of the block are in the sums. Assumes nothing.
use mathlib.Core.Path.{◌≡◌}
use Prim.Native.Nat.{ℕ, ◌+◌, ◌-◌, ◌*◌, ◌≤◌, ◌<◌}
use lib.ListN.{length, drop}
use Rattle.bits.specs.Bits.{bytes_for, unpack}
use Rattle.block_product.proofs.Groups.{part_row}
use Rattle.block_product.proofs.multiply.Given as goal

abbrev pub invariant-loop-d : goal.invariant-loop-d
invariant-loop-d l =
    (l.d ≤ l.rows) × (l.d < l.rows → l.d ≡ 8 * l.q) × (length l.acc ≡ length l.initial.acc) × (length l.t ≡ 16384)
    × ((i : ℕ) → i < l.count → unpack l.w (drop (i * bytes_for l.w) l.acc) ≡ part_row l.rows l.w l.work l.d (l.first + i))

abbrev pub decreases-loop-d : goal.decreases-loop-d
decreases-loop-d l = l.rows - l.d
