-- The loop's invariant: the first i rows are done, and what follows is as it was. Assumes nothing.
use mathlib.Core.Path.{◌≡◌}
use mathlib.Core.List.{List}
use Prim.Native.Nat.{ℕ, ◌-◌, ◌*◌, ◌%◌, ◌^◌, ◌≤◌, ◌<◌}
use lib.ListN.{length, get_or, drop}
use Rattle.bits.specs.Bits.{bytes_for, unpack, xor_row}
use Rattle.block_product.proofs.add_sums.Given as goal

-- row j with its sum added
abbrev pub added : List ℕ → List ℕ → List ℕ → ℕ → ℕ → ℕ → ℕ → List ℕ
added acc t b w step c j =
    xor_row (unpack w (drop (j * bytes_for w) acc)) (unpack w (drop (get_or b (j * step) 0 % 2 ^ c * bytes_for w) t))

abbrev pub invariant-loop-i : goal.invariant-loop-i
invariant-loop-i l =
    (l.i ≤ l.count) × (l.at ≡ l.i * bytes_for l.w) × (l.from ≡ l.i * l.step) × (length l.acc ≡ length l.initial.acc) × (l.k ≡ bytes_for l.w)
    × (drop l.at l.acc ≡ drop l.at l.initial.acc) × ((j : ℕ) → j < l.i → unpack l.w (drop (j * bytes_for l.w) l.acc) ≡ added l.initial.acc l.t l.b l.w l.step l.c j)

abbrev pub decreases-loop-i : goal.decreases-loop-i
decreases-loop-i l = l.count - l.i
