-- The loop's invariant: the rows before row `first` are written, and all else is as it was. Assumes nothing.
use mathlib.Core.Path.{◌≡◌}
use mathlib.Core.Logic.{◌⊎◌}
use Prim.Native.Nat.{ℕ, ◌+◌, ◌-◌, ◌*◌, ◌≤◌, ◌<◌}
use lib.ListN.{length, get_or}
use Rattle.bits.specs.Bits.{bytes_for, pack}
use Rattle.block_product.specs.Blocks.{block_row}
use Rattle.block_product.proofs.product.Given as goal

abbrev pub invariant-loop-first : goal.invariant-loop-first
invariant-loop-first l =
    (l.first < l.rows) × (l.at ≡ l.first * l.size) × (length l.out ≡ length l.initial.out)
    × ((i x : ℕ) → i < l.first → x < bytes_for l.w → get_or l.out (i * l.size + x) 0 ≡ get_or (pack (block_row l.rows l.w l.work i)) x 0)
    × ((y : ℕ) → ((i : ℕ) → i < l.first → (y < i * l.size) ⊎ (i * l.size + bytes_for l.w ≤ y)) → get_or l.out y 0 ≡ get_or l.initial.out y 0)

abbrev pub decreases-loop-first : goal.decreases-loop-first
decreases-loop-first l = l.rows - l.first
