-- The table of all sums of a few rows: with one row more it has twice as many, and a sum is the row that its digits number. Assumes nothing.
use mathlib.Core.Path.{◌≡◌, refl, sym, ap, ap₂, ◌∙◌}
use mathlib.Core.List.{List, [], ◌∷◌, ◌++◌, map}
use Prim.Native.Nat.{ℕ, suc, ◌+◌, ◌*◌, ◌/◌, ◌%◌, ◌^◌, ◌<◌}
use native.Mathlib.Nat.{zero-mul, one-mul, pow-suc, suc_inj, suc-ne-zero}
use native.Mathlib.Omega.{arith}
use lib.ListN.{length, replicate, length-map, length-replicate}
use Rattle.bits.specs.Bits.{Row, off, on, end, number, xor_row}
use Rattle.bits.proofs.Lists.{cons_eq}
use Rattle.bits.proofs.Pack.{row_length}
use Rattle.bits.proofs.Rows.{length-xor_row, xor_row_comm, xor_row_assoc, xor_row_zeros}
use Rattle.code.specs.PublicKey.{Matrix}
use Rattle.code.proofs.Kernel.{Rows}
use Rattle.code.proofs.Kernel as kernel
use Rattle.small_key.specs.Sums.{sum_rows, table_row}

zero_times : (p : List ℕ) → map (◌*◌ 0) p ≡ replicate (length p) 0
zero_times [] = refl
zero_times (x ∷ p) = cons_eq (zero-mul x) (zero_times p)

one_times : (p : List ℕ) → map (◌*◌ 1) p ≡ p
one_times [] = refl
one_times (x ∷ p) = cons_eq (one-mul x) (one_times p)

zeros_xor_row : (n : ℕ) (x : List ℕ) → length x ≡ n → xor_row (replicate n 0) x ≡ x
zeros_xor_row n x h = xor_row_comm (replicate n 0) x (length-replicate n 0 ∙ sym h) ∙ xor_row_zeros x n

length_table : {n : ℕ} {ps : Matrix} (c : ℕ) → Rows n ps → length (table_row n ps c) ≡ n
unfolding table_row
length_table {n} c kernel.none = length-replicate n 0
length_table {n} c (kernel.row {r = r} a m) = length-xor_row (map (◌*◌ (c % 2)) r) _ ∙ length-map r (◌*◌ (c % 2)) ∙ row_length a

pub length-sum : {n : ℕ} {rs : Matrix} (ds : List ℕ) → Rows n rs → length (sum_rows n ds rs) ≡ n
unfolding sum_rows
length-sum {n} [] m = length-replicate n 0
length-sum {n} (d ∷ ds) kernel.none = length-replicate n 0
length-sum {n} (d ∷ ds) (kernel.row {r = r} a m) = length-xor_row (map (◌*◌ d) r) _ ∙ length-map r (◌*◌ d) ∙ row_length a

half : (k c : ℕ) → c < 2 ^ suc k → c / 2 < 2 ^ k
half k c h = omega (arith, pow-suc 2 k)

-- the first half is the table without the last row
last-low : {n : ℕ} {p : List ℕ} (c : ℕ) → c < 1 → Row n p → table_row n (p ∷ []) c ≡ replicate n 0
unfolding table_row
last-low {n} {p} c h a =
    let z : c % 2 ≡ 0 = omega arith in
    xor_row_zeros (map (◌*◌ (c % 2)) p) n ∙ ap (λ (x : ℕ). map (◌*◌ x) p) z ∙ zero_times p ∙ ap (λ (x : ℕ). replicate x 0) (row_length a)

pub table_low : {n : ℕ} {ps : Matrix} {p : List ℕ} (c : ℕ) → c < 2 ^ length ps → Rows n ps → Row n p → table_row n (ps ++ (p ∷ [])) c ≡ table_row n ps c
unfolding table_row
table_low c h kernel.none a = last-low c h a
table_low c h (kernel.row {r = r} {rs = rs} b m) a = ap (xor_row (map (◌*◌ (c % 2)) r)) (table_low (c / 2) (half (length rs) c h) m a)

-- the second half has it added
last_high : {n : ℕ} {p : List ℕ} (c : ℕ) → c < 1 → Row n p → table_row n (p ∷ []) (1 + c) ≡ xor_row (replicate n 0) p
unfolding table_row
last_high {n} {p} c h a =
    let o : (1 + c) % 2 ≡ 1 = omega arith in
    xor_row_zeros (map (◌*◌ ((1 + c) % 2)) p) n ∙ ap (λ (x : ℕ). map (◌*◌ x) p) o ∙ one_times p ∙ sym (zeros_xor_row n p (row_length a))

pub table_high : {n : ℕ} {ps : Matrix} {p : List ℕ} (c : ℕ) → c < 2 ^ length ps → Rows n ps → Row n p
    → table_row n (ps ++ (p ∷ [])) (2 ^ length ps + c) ≡ xor_row (table_row n ps c) p
unfolding table_row
table_high c h kernel.none a = last_high c h a
table_high {n} {p = p} c h (kernel.row {r = r} {rs = rs} b m) a =
    let k : ℕ = length rs in
    let low : (2 ^ suc k + c) % 2 ≡ c % 2 = omega (arith, pow-suc 2 k) in
    let high : (2 ^ suc k + c) / 2 ≡ 2 ^ k + c / 2 = omega (arith, pow-suc 2 k) in
    ap₂ (λ (x y : ℕ). xor_row (map (◌*◌ x) r) (table_row n (rs ++ (p ∷ [])) y)) low high
    ∙ ap (xor_row (map (◌*◌ (c % 2)) r)) (table_high (c / 2) (half k c h) m a)
    ∙ sym (xor_row_assoc (map (◌*◌ (c % 2)) r) (table_row n rs (c / 2)) p
    (omega (arith, length-map r (◌*◌ (c % 2)), row_length b, length_table (c / 2) m)))

-- the sum of two parts
sum-append : {n : ℕ} {rs ss : Matrix} (ds es : List ℕ) → Rows n rs → Rows n ss → length ds ≡ length rs
    → sum_rows n (ds ++ es) (rs ++ ss) ≡ xor_row (sum_rows n ds rs) (sum_rows n es ss)
unfolding sum_rows
sum-append {n} [] es kernel.none ms h = sym (zeros_xor_row n _ (length-sum es ms))
sum-append [] es (kernel.row a m) ms h = absurd (suc-ne-zero _ (sym h))
sum-append (d ∷ ds) es kernel.none ms h = absurd (suc-ne-zero _ h)
sum-append {n} {ss = ss} (d ∷ ds) es (kernel.row {r = r} {rs = rs} a m) ms h =
    ap (xor_row (map (◌*◌ d) r)) (sum-append ds es m ms (suc_inj h))
    ∙ sym (xor_row_assoc (map (◌*◌ d) r) (sum_rows n ds rs) (sum_rows n es ss) (omega (arith, length-map r (◌*◌ d), row_length a, length-sum ds m)))

low_digit : (d x : ℕ) → d < 2 → (d + 2 * x) % 2 ≡ d
low_digit d x h = omega arith

high_digits : (d x : ℕ) → d < 2 → (d + 2 * x) / 2 ≡ x
high_digits d x h = omega arith

-- a sum is the row of the table that the list numbers
table_digit : (n d : ℕ) (ds p : List ℕ) (ps : Matrix) → d < 2 → sum_rows n ds ps ≡ table_row n ps (number ds) → sum_rows n (d ∷ ds) (p ∷ ps) ≡ table_row n (p ∷ ps) (number (d ∷ ds))
unfolding sum_rows table_row number
table_digit n d ds p ps h e =
    ap (xor_row (map (◌*◌ d) p)) e
    ∙ sym (ap₂ (λ (u v : ℕ). xor_row (map (◌*◌ u) p) (table_row n ps v)) (low_digit d (number ds) h) (high_digits d (number ds) h))

sum_table : (n : ℕ) (ps : Matrix) {ds : List ℕ} → Row (length ps) ds → sum_rows n ds ps ≡ table_row n ps (number ds)
unfolding sum_rows table_row
sum_table n [] end = refl
sum_table n (p ∷ ps) (off {e = ds} r) = table_digit n 0 ds p ps (omega arith) (sum_table n ps r)
sum_table n (p ∷ ps) (on {e = ds} r) = table_digit n 1 ds p ps (omega arith) (sum_table n ps r)

-- a group of rows more: one row of its table is added
pub sum_group : {n : ℕ} {rs ps : Matrix} {es : List ℕ} (ds : List ℕ) → Rows n rs → Rows n ps → length ds ≡ length rs → Row (length ps) es
    → sum_rows n (ds ++ es) (rs ++ ps) ≡ xor_row (sum_rows n ds rs) (table_row n ps (number es))
sum_group {n} {rs} {ps} {es} ds m ms h w = sum-append ds es m ms h ∙ ap (xor_row (sum_rows n ds rs)) (sum_table n ps w)
