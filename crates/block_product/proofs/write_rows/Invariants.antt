-- The loop's invariant: the first i rows are written, and all else is as it was. Assumes nothing.
use mathlib.Core.Path.{◌≡◌}
use mathlib.Core.Logic.{◌⊎◌}
use Prim.Native.Nat.{ℕ, ◌+◌, ◌-◌, ◌*◌, ◌≤◌, ◌<◌}
use lib.ListN.{length, get_or, drop}
use Rattle.bits.specs.Bits.{bytes_for, unpack, pack}
use Rattle.block_product.proofs.write_rows.Given as goal

abbrev pub invariant-loop-i : goal.invariant-loop-i
invariant-loop-i l =
    (l.i ≤ l.count) × (l.at ≡ l.i * l.size) × (l.from ≡ l.i * bytes_for l.w) × (length l.out ≡ length l.initial.out) × (l.k ≡ bytes_for l.w)
    × ((j x : ℕ) → j < l.i → x < bytes_for l.w → get_or l.out (j * l.size + x) 0 ≡ get_or (pack (unpack l.w (drop (j * bytes_for l.w) l.acc))) x 0)
    × ((y : ℕ) → ((j : ℕ) → j < l.i → (y < j * l.size) ⊎ (j * l.size + bytes_for l.w ≤ y)) → get_or l.out y 0 ≡ get_or l.initial.out y 0)

abbrev pub decreases-loop-i : goal.decreases-loop-i
decreases-loop-i l = l.count - l.i
