-- The loop's invariant: the columns before column j are written, and the right halves are as they were. Assumes nothing.
use mathlib.Core.Path.{◌≡◌}
use Prim.Native.Nat.{ℕ, ◌+◌, ◌-◌, ◌*◌, ◌/◌, ◌≤◌, ◌<◌}
use lib.ListN.{length, get_or, drop}
use Rattle.bits.specs.Bits.{pack}
use Rattle.block_product.specs.Blocks.{step_of, right_row}
use Rattle.column_blocks.specs.Tails.{tail_row}
use Rattle.column_blocks.proofs.blocks.Given as goal

abbrev pub invariant-loop-j : goal.invariant-loop-j
invariant-loop-j l =
    (l.j ≤ length l.points) × (l.j < length l.points → l.j ≡ 8 * (l.j / 8)) × (length l.out ≡ length l.initial.out) × (length l.work ≡ length l.initial.work)
    × ((i : ℕ) → i < l.rows → right_row l.rows l.work i ≡ right_row l.rows l.initial.work i) × (drop (l.rows * step_of l.rows) l.work ≡ drop (l.rows * step_of l.rows) l.initial.work)
    × ((i x : ℕ) → i < l.rows → 8 * x < l.j → get_or l.out (i * l.size + x) 0 ≡ get_or (pack (tail_row l.m l.points l.g l.rows l.initial.work i)) x 0)
    × ((y : ℕ) → l.rows * l.size ≤ y → get_or l.out y 0 ≡ get_or l.initial.out y 0)

abbrev pub decreases-loop-j : goal.decreases-loop-j
decreases-loop-j l = length l.points - l.j
