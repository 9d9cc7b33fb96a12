-- A group of rows more in a row's product, by the table of the group; where the group and the rows lie. Assumes nothing.
use mathlib.Core.Path.{◌≡◌, refl, sym, ap, ap₂, ◌∙◌, subst}
use mathlib.Core.List.{List, map}
use Prim.Native.Nat.{ℕ, zero, suc, ◌+◌, ◌-◌, ◌*◌, ◌%◌, ◌^◌, ◌≤◌, ◌<◌, min}
use native.Mathlib.Nat.{zero-add, add-zero, add-mul, mul-le-mul_left, mul-le-mul_right, not-suc-le-zero, le_of_suc-le-suc, le_trans}
use native.Mathlib.Omega.{arith}
use lib.ListN.{length, get_or, drop, replicate, length-replicate}
use lib.Pow.{pow_mono}
use lib.Seq.{get_or-drop}
use Rattle.bits.specs.Bits.{Row, from, bytes_for, bit_at, unpack, number, xor_row}
use Rattle.bits.proofs.Xor.{low}
use Rattle.bits.proofs.Padded.{drop_zeros}
use Rattle.bits.proofs.Parts.{rows_in}
use Rattle.bits.proofs.Pack.{length-unpack, unpack-add, unpack-take, row_map}
use Rattle.code.specs.PublicKey.{Matrix}
use Rattle.code.specs.Lock.{row_of, rows_of}
use Rattle.code.proofs.PackedRows.{unpack_zeros}
use Rattle.small_key.specs.Sums.{sum_rows, table_row}
use Rattle.small_key.proofs.Sums.{sum_group}
use Rattle.sum_tables.specs.Apart.{rows_apart}
use Rattle.sum_tables.proofs.Doubling.{rows_bits, length_apart, apart_add}
use Rattle.block_product.specs.Blocks.{step_of, right_row, block_row}
use Rattle.block_product.proofs.Digits.{byte_number}

-- equal lists of rows have equal rows
pub row_from : (f g : ℕ → List ℕ) (k n : ℕ) → map f (from k n) ≡ map g (from k n) → (i : ℕ) → i < n → f (k + i) ≡ g (k + i)
unfolding from
row_from f g k zero e i h = absurd (not-suc-le-zero h)
row_from f g k (suc n) e zero h = let x : f k ≡ g k = cc in ap f (add-zero k) ∙ x ∙ ap g (sym (add-zero k))
row_from f g k (suc n) e (suc i) h =
    let s : suc k + i ≡ k + suc i = omega arith in
    let t : map f (from (suc k) n) ≡ map g (from (suc k) n) = cc in
    ap f (sym s) ∙ row_from f g (suc k) n t i (le_of_suc-le-suc h) ∙ ap g s

-- row v of a table in a list of bytes
pub table_at : (m w : ℕ) (t : List ℕ) (ps : Matrix) → rows_of m w t ≡ map (table_row w ps) (from 0 m) → (v : ℕ) → v < m
    → unpack w (drop (v * bytes_for w) t) ≡ table_row w ps v
unfolding rows_of row_of
table_at m w t ps e v h =
    sym (unpack-take w (bytes_for w) (drop (v * bytes_for w) t) (omega arith))
    ∙ ap (λ (x : ℕ). unpack w (row_of w t x)) (sym (zero-add v))
    ∙ row_from (λ r. unpack w (row_of w t r)) (table_row w ps) 0 m e v h
    ∙ ap (table_row w ps) (zero-add v)

-- c rows more, from row 8·q on: the row of their table that the byte q of u numbers is added
pub sum-next : (w step d q c : ℕ) (work u : List ℕ) → d ≡ 8 * q → c ≤ 8
    → sum_rows w (unpack (d + c) u) (rows_apart (d + c) w step work)
    ≡ xor_row (sum_rows w (unpack d u) (rows_apart d w step work)) (table_row w (rows_apart c w step (drop (d * step) work)) (get_or u q 0 % 2 ^ c))
unfolding bit_at
sum-next w step d q c work u e h =
    let ps : Matrix = rows_apart c w step (drop (d * step) work) in
    let es : List ℕ = map (bit_at u) (from d c) in
    let row : Row (length ps) es =
    subst (λ (x : ℕ). Row x es) (sym (length_apart c w step (drop (d * step) work))) (row_map (bit_at u) (λ i. low _) d c) in
    ap₂ (sum_rows w) (unpack-add d c u) (apart_add d c w step work)
    ∙ sum_group (unpack d u) (rows_bits d w step work) (rows_bits c w step (drop (d * step) work))
    (length-unpack d u ∙ sym (length_apart d w step work)) row
    ∙ ap (λ (x : ℕ). xor_row (sum_rows w (unpack d u) (rows_apart d w step work)) (table_row w ps x))
    (ap (λ (x : ℕ). number (map (bit_at u) (from x c))) e ∙ byte_number u q c h)

-- the sizes of rows in two halves
pub step_is : (rows : ℕ) → step_of rows ≡ bytes_for rows + bytes_for rows
unfolding step_of
step_is rows = refl

pub step_few : (rows : ℕ) → rows ≤ 1664 → step_of rows ≤ 416
unfolding step_of bytes_for
step_few rows h = omega arith

pub bytes_few : (w : ℕ) → w ≤ 512 → bytes_for w ≤ 64
unfolding bytes_for
bytes_few w h = omega arith

pub rows_few : (r rows : ℕ) → r ≤ rows → rows ≤ 1664 → r * step_of rows ≤ 1664 * 416
rows_few r rows h l = le_trans (mul-le-mul_right (step_of rows) (le_trans h l)) (mul-le-mul_left 1664 (step_few rows l))

pub part_in : (d c rows step len : ℕ) → d + c ≤ rows → rows * step ≤ len → d * step + c * step ≤ len
part_in d c rows step len h l = subst (λ (x : ℕ). x ≤ len) (add-mul d c step) (le_trans (mul-le-mul_right step h) l)

pub table_fits : (c b len : ℕ) → c ≤ 8 → 256 * b ≤ len → 2 ^ c * b ≤ len
table_fits c b len h l = le_trans (mul-le-mul_right b (pow_mono h)) l

-- byte q of the right half of row f + i
pub byte_in : (f i count rows q len : ℕ) → i < count → f + count ≤ rows → q < bytes_for rows → rows * step_of rows ≤ len
    → f * step_of rows + bytes_for rows + q + i * step_of rows < len
byte_in f i count rows q len h k l m =
    let s : f + i < rows = omega arith in
    omega (arith, rows_in (f + i) rows (step_of rows) s, add-mul f i (step_of rows), step_is rows)

pub byte_of : (f i rows q : ℕ) (work : List ℕ)
    → get_or (drop (f * step_of rows + bytes_for rows + q) work) (i * step_of rows) 0 ≡ get_or work ((f + i) * step_of rows + bytes_for rows + q) 0
byte_of f i rows q work =
    let e : f * step_of rows + bytes_for rows + q + i * step_of rows ≡ (f + i) * step_of rows + bytes_for rows + q = omega (arith, add-mul f i (step_of rows)) in
    get_or-drop (f * step_of rows + bytes_for rows + q) work (i * step_of rows) 0 ∙ ap (λ (x : ℕ). get_or work x 0) e

-- where byte q begins a group of the rows
pub group_byte : (rows d q : ℕ) → d < rows → d ≡ 8 * q → q < bytes_for rows
unfolding bytes_for
group_byte rows d q h e = omega arith

-- row i of the product, as far as the first d rows of the block
abbrev pub part_row : ℕ → ℕ → List ℕ → ℕ → ℕ → List ℕ
part_row rows w work d i = sum_rows w (unpack d (drop (i * step_of rows + bytes_for rows) work)) (rows_apart d w (step_of rows) work)

pub part_none : (rows w : ℕ) (work : List ℕ) (i : ℕ) → replicate w 0 ≡ part_row rows w work 0 i
unfolding sum_rows unpack from
part_none rows w work i = refl

pub part-next : (rows w : ℕ) (work : List ℕ) (d q c i : ℕ) → d ≡ 8 * q → c ≤ 8
    → xor_row (part_row rows w work d i)
    (table_row w (rows_apart c w (step_of rows) (drop (8 * q * step_of rows) work)) (get_or work (i * step_of rows + bytes_for rows + q) 0 % 2 ^ c))
    ≡ part_row rows w work (d + c) i
part-next rows w work d q c i e h =
    let u : ℕ = i * step_of rows + bytes_for rows in
    sym (sum-next w (step_of rows) d q c work (drop u work) e h
    ∙ ap₂ (λ (x y : ℕ). xor_row (part_row rows w work d i) (table_row w (rows_apart c w (step_of rows) (drop (x * step_of rows) work)) (y % 2 ^ c))) e
    (get_or-drop u work q 0))

pub part_all_rows : (rows w : ℕ) (work : List ℕ) (i : ℕ) → part_row rows w work rows i ≡ block_row rows w work i
unfolding block_row right_row
part_all_rows rows w work i = refl

-- eight rows, or those that are left
pub group_few : (rows d : ℕ) → d < rows → (min 8 (rows - d) ≤ 8) × (d + min 8 (rows - d) ≤ rows) × (0 < min 8 (rows - d)) × (d + min 8 (rows - d) < rows → min 8 (rows - d) ≡ 8)
group_few rows d h = (omega arith, omega arith, omega arith, λ l. omega arith)

-- an array of zeros has rows of zeros, and room for 640 rows of at most 64 bytes
pub zero_rows : (w d m : ℕ) → unpack w (drop d (replicate m 0)) ≡ replicate w 0
zero_rows w d m = ap (unpack w) (drop_zeros d m) ∙ unpack_zeros w (m - d)

pub zeros_room : (count w m : ℕ) → count ≤ 640 → w ≤ 512 → 40960 ≤ m → count * bytes_for w ≤ length (replicate {A = ℕ} m 0)
zeros_room count w m h l r =
    let e : 640 * bytes_for w ≤ 640 * 64 = mul-le-mul_left 640 (bytes_few w l) in
    let f : count * bytes_for w ≤ m = le_trans (le_trans (mul-le-mul_right (bytes_for w) h) e) r in
    subst (λ (x : ℕ). count * bytes_for w ≤ x) (sym (length-replicate {A = ℕ} m 0)) f
