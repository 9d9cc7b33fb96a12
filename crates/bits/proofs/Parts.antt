-- Rows of a lent list, one behind another: where row r lies, and the part from a place on. Assumes nothing.
use mathlib.Core.Path.{◌≡◌, sym, ap, ◌∙◌}
use mathlib.Core.List.{List, ◌++◌, append-nil}
use borrow.Rule.Slice.PartMut.{put_mid}
use Prim.Native.Nat.{ℕ, ◌+◌, ◌-◌, ◌*◌, ◌≤◌, ◌<◌}
use native.Mathlib.Nat.{suc-mul, le_trans, le_of_eq, mul-le-mul_right}
use native.Mathlib.Numerals.{add-one}
use native.Mathlib.Omega.{arith}
use lib.ListN.{length, take, drop, length-drop, drop_of_length-le}
use lib.Seq.{take_all}
use Rattle.bits.specs.Bits.{bytes_for}

-- row r of more rows lies within them
pub rows_in : (r rows b : ℕ) → r < rows → r * b + b ≤ rows * b
rows_in r rows b h = le_trans (le_of_eq (sym (suc-mul r b))) (mul-le-mul_right b h)

pub next_row : (r b : ℕ) → r * b + b ≡ (r + 1) * b
next_row r b = sym (ap (λ (x : ℕ). x * b) (add-one r) ∙ suc-mul r b)

-- a row of at most 8192 bits
pub row_size : (n : ℕ) → n ≤ 8192 → bytes_for n ≤ 1024
unfolding bytes_for
row_size n h = omega arith

-- the part from `at` to the end
pub part_all : (at : ℕ) (l : List ℕ) → take (length l - at) (drop at l) ≡ drop at l
part_all at l = take_all (length l - at) (drop at l) (omega (arith, length-drop at l))

-- that part is lent, and comes back as y
pub part_back : (at : ℕ) (l y : List ℕ) → put_mid at (length l - at) l y ≡ take at l ++ y
part_back at l y =
    ap (λ (t : List ℕ). take at l ++ (y ++ t)) (drop_of_length-le (drop at l) {i = length l - at} (omega (arith, length-drop at l)))
    ∙ ap (λ (t : List ℕ). take at l ++ t) (append-nil y)
