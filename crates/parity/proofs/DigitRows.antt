-- A digit of each number of a list as a row, and groups of such rows. Assumes nothing.
use mathlib.Core.Path.{◌≡◌, refl, sym, ap, ◌∙◌, subst}
use mathlib.Core.List.{List, [], ◌∷◌, ◌++◌, map, map-append}
use Prim.Native.Nat.{ℕ, zero, suc, ◌+◌, ◌*◌, ◌/◌, ◌%◌, ◌^◌, ◌≤◌, ◌<◌}
use native.Mathlib.Nat.{zero-add, add-mul, mul_comm, mul-le-mul_right, not-suc-le-zero, le_of_suc-le-suc}
use lib.ListN.{length, get_or, take, length-map}
use lib.Seq.{length-take-le}
use Rattle.bits.specs.Bits.{Row, end, from, put_bits, unpack, over}
use Rattle.bits.proofs.Xor.{low}
use Rattle.bits.proofs.Lists.{from-add, length_from}
use Rattle.bits.proofs.Pack.{row_cons}
use Rattle.bits.proofs.Parts.{rows_in, next_row}
use Rattle.parity.specs.Rows.{digit_row, digit_rows}
use Rattle.parity.proofs.RowsOver.{unpack-put}

pub length-digit_row : (p : List ℕ) (k : ℕ) → length (digit_row p k) ≡ length p
unfolding digit_row
length-digit_row p k = length-map p (λ x. x / 2 ^ k % 2)

pub row_digit_row : (p : List ℕ) (k : ℕ) → Row (length p) (digit_row p k)
unfolding digit_row
row_digit_row [] k = end
row_digit_row (x ∷ p) k = row_cons (low (x / 2 ^ k)) (row_digit_row p k)

-- the digit at place j, of the first n numbers of a longer list
pub digit_row-take : (n : ℕ) (p : List ℕ) (k j : ℕ) → j < n → j < length p → get_or (digit_row (take n p) k) j 0 ≡ get_or p j 0 / 2 ^ k % 2
unfolding digit_row
digit_row-take zero p k j h l = absurd (not-suc-le-zero h)
digit_row-take (suc n) [] k j h l = absurd (not-suc-le-zero l)
digit_row-take (suc n) (x ∷ p) k zero h l = refl
digit_row-take (suc n) (x ∷ p) k (suc j) h l = digit_row-take n p k j (le_of_suc-le-suc h) (le_of_suc-le-suc l)

-- read back from where they were written, with what lies behind them
pub unpack-digits : (n w : ℕ) (p : List ℕ) (k : ℕ) (s : List ℕ) → n ≤ length p → n ≤ w → w ≤ 8 * length s
    → unpack w (put_bits (digit_row (take n p) k) 0 s) ≡ over (digit_row (take n p) k) (unpack w s)
unpack-digits n w p k s h l z =
    unpack-put w s (subst (λ (i : ℕ). Row i (digit_row (take n p) k)) (length-take-le n p h) (row_digit_row (take n p) k)) l z

pub digit_rows_none : (p : List ℕ) → digit_rows 0 p ≡ []
unfolding digit_rows from
digit_rows_none p = refl

pub digit_rows-next : (k : ℕ) (p : List ℕ) → digit_rows (k + 1) p ≡ digit_rows k p ++ (digit_row p k ∷ [])
unfolding digit_rows from
digit_rows-next k p = ap (map (digit_row p)) (from-add 0 k 1 ∙ ap (λ (i : ℕ). from 0 k ++ (i ∷ [])) (zero-add k)) ∙ map-append (digit_row p) (from 0 k) (k ∷ [])

pub length-digit_rows : (k : ℕ) (p : List ℕ) → length (digit_rows k p) ≡ k
unfolding digit_rows
length-digit_rows k p = length-map (from 0 k) (digit_row p) ∙ length_from 0 k

-- groups of m rows of b bytes: the next one, and the last of t
pub group_next : (s m b : ℕ) → s * m * b + m * b ≡ (s + 1) * m * b
group_next s m b = sym (add-mul (s * m) m b) ∙ ap (λ (x : ℕ). x * b) (next_row s m)

pub group_in : (s t m b : ℕ) → s < t → s * m * b + m * b ≤ m * t * b
group_in s t m b h =
    let e : s * m + m ≤ t * m = rows_in s t m h in
    let f : (s * m + m) * b ≤ m * t * b = mul-le-mul_right b (rw (mul_comm m t) e) in
    rw (add-mul (s * m) m b) at f
