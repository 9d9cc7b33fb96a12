-- H's rows for some points at the front of the workspace's rows: the block, and the right halves as they were. Assumes nothing.
use mathlib.Core.Path.{◌≡◌, refl, sym, ap, ap₂, ◌∙◌}
use mathlib.Core.List.{List, ◌∷◌, map, zip_with}
use Prim.Native.Nat.{ℕ, zero, suc, ◌+◌, ◌-◌, ◌*◌, ◌≤◌, ◌<◌}
use native.Mathlib.Nat.{zero-add}
use native.Mathlib.Omega.{arith}
use lib.ListN.{length, get_or, take, drop}
use lib.Seq.{drop-drop, take_all, get_or-drop}
use Rattle.bits.specs.Bits.{from, bytes_for, bit_at, unpack, over}
use Rattle.bits.proofs.Lists.{map-from}
use Rattle.bits.proofs.Pack.{row_length, unpack-take, unpack-at, bytes_enough, bit_drop, unpack_ext}
use Rattle.bits.proofs.Padded.{over_first, over_rest}
use Rattle.key.specs.Keys.{Key, key_of}
use Rattle.code.specs.Code.{parity_row, parity_rows}
use Rattle.code.specs.Lock.{row_of, rows_of}
use Rattle.code.proofs.Kernel.{row_parity_row}
use Rattle.code.proofs.PackedRows.{bytes_whole, take-unpack}
use Rattle.parity.specs.Rows.{over_rows}
use Rattle.small_key.specs.Sums.{sum_rows}
use Rattle.small_key.proofs.Products.{block_product}
use Rattle.sum_tables.specs.Apart.{rows_apart}
use Rattle.block_product.specs.Blocks.{step_of, right_row, block_row}
use Rattle.block_product.proofs.Groups.{row_from, step_is}
use Rattle.column_blocks.specs.Tails.{tail_row}

-- rows written over others, one by one
over_row : (f : ℕ → List ℕ) (g : ℕ → List ℕ) (k n : ℕ) → over_rows (map f (from k n)) (map g (from k n)) ≡ map (λ r. over (f r) (g r)) (from k n)
unfolding over_rows zip_with from
over_row f g k zero = refl
over_row f g k (suc n) = ap (◌∷◌ (over (f k) (g k))) (over_row f g (suc k) n)

-- row i of a workspace of rows of 8·step bits
module _ (k : Key) (rows step : ℕ) (w₀ w : List ℕ) (count : k.m * k.t ≡ rows)
    (written : rows_of rows (8 * step) w ≡ over_rows (parity_rows k) (rows_of rows (8 * step) w₀)) where
  row_of_lem : (u : List ℕ) (i : ℕ) → unpack (8 * step) (row_of (8 * step) u i) ≡ unpack (8 * step) (drop (i * step) u)
  unfolding row_of
  row_of_lem u i =
      ap (λ (x : ℕ). unpack (8 * step) (take x (drop (i * x) u))) (bytes_whole step)
      ∙ unpack-take (8 * step) step (drop (i * step) u) (omega (arith, bytes_whole step))

  pub row_written_lem : (i : ℕ) → i < rows → unpack (8 * step) (drop (i * step) w) ≡ over (parity_row k i) (unpack (8 * step) (drop (i * step) w₀))
  unfolding rows_of parity_rows
  row_written_lem i h =
      let F : ℕ → List ℕ = λ r. unpack (8 * step) (row_of (8 * step) w r) in
      let G : ℕ → List ℕ = λ r. over (parity_row k r) (unpack (8 * step) (row_of (8 * step) w₀ r)) in
      let e : map F (from 0 rows) ≡ map G (from 0 rows) =
      written ∙ ap (λ (x : ℕ). over_rows (map (parity_row k) (from 0 x)) (map (λ r. unpack (8 * step) (row_of (8 * step) w₀ r)) (from 0 rows))) count
      ∙ over_row (parity_row k) (λ r. unpack (8 * step) (row_of (8 * step) w₀ r)) 0 rows in
      sym (row_of_lem w i) ∙ ap F (sym (zero-add i)) ∙ row_from F G 0 rows e i h ∙ ap G (zero-add i) ∙ ap (over (parity_row k i)) (row_of_lem w₀ i)

-- the points' rows of H, w bits each, in front of the right halves
module _ (m : ℕ) (points g : List ℕ) (rows : ℕ) (w₀ w : List ℕ) (count : m * length g ≡ rows) (fits : bytes_for (length points) ≤ bytes_for rows)
    (written : rows_of rows (8 * step_of rows) w ≡ over_rows (parity_rows (key_of m points g)) (rows_of rows (8 * step_of rows) w₀)) where
  abbrev key : Key
  key = key_of m points g

  abbrev width : ℕ
  width = length points

  abbrev bits : ℕ
  bits = 8 * step_of rows

  key_count : key.m * key.t ≡ rows
  unfolding key_of
  key_count = count

  row_length-of : (i : ℕ) → length (parity_row key i) ≡ width
  unfolding key_of
  row_length-of i = row_length (row_parity_row key i)

  inside : width ≤ bits
  inside = omega (arith, bytes_enough width, step_is rows)

  front_row : (i : ℕ) → i < rows → unpack width (drop (i * step_of rows) w) ≡ parity_row key i
  front_row i h =
      sym (take-unpack width bits (drop (i * step_of rows) w) inside)
      ∙ ap (take width) (row_written_lem key rows (step_of rows) w₀ w key_count written i h)
      ∙ over_first (parity_row key i) (unpack bits (drop (i * step_of rows) w₀)) width (row_length-of i)

  pub front_rows : rows_apart rows width (step_of rows) w ≡ parity_rows key
  unfolding rows_apart parity_rows
  front_rows =
      map-from (λ r. unpack width (drop (r * step_of rows) w)) (parity_row key) 0 0 rows
      (λ i h. ap (λ (x : ℕ). unpack width (drop (x * step_of rows) w)) (zero-add i) ∙ front_row i h ∙ ap (parity_row key) (sym (zero-add i)))
      ∙ ap (λ (x : ℕ). map (parity_row key) (from 0 x)) (sym key_count)

  -- a bit behind the block is as it was
  bit_kept : (i c : ℕ) → i < rows → width ≤ c → c < bits → bit_at (drop (i * step_of rows) w) c ≡ bit_at (drop (i * step_of rows) w₀) c
  bit_kept i c h l b =
      let u : List ℕ = drop (i * step_of rows) w in
      let v : List ℕ = drop (i * step_of rows) w₀ in
      let e : width + (c - width) ≡ c = omega arith in
      let behind : (z : List ℕ) → get_or (unpack bits z) c 0 ≡ get_or (drop width (unpack bits z)) (c - width) 0 =
      λ z. sym (get_or-drop width (unpack bits z) (c - width) 0 ∙ ap (λ (x : ℕ). get_or (unpack bits z) x 0) e) in
      sym (unpack-at bits u c 0 b) ∙ behind u
      ∙ ap (λ (x : List ℕ). get_or (drop width x) (c - width) 0) (row_written_lem key rows (step_of rows) w₀ w key_count written i h)
      ∙ ap (λ (x : List ℕ). get_or x (c - width) 0) (over_rest (parity_row key i) (unpack bits v) width (row_length-of i))
      ∙ sym (behind v) ∙ unpack-at bits v c 0 b

  pub right_kept : (i : ℕ) → i < rows → right_row rows w i ≡ right_row rows w₀ i
  unfolding right_row
  right_kept i h =
      let b : ℕ = bytes_for rows in
      unpack_ext rows (drop (i * step_of rows + b) w) (drop (i * step_of rows + b) w₀)
      (λ c l.
      let place : (z : List ℕ) → bit_at (drop (i * step_of rows + b) z) c ≡ bit_at (drop (i * step_of rows) z) (8 * b + c) =
      λ z. ap (λ (x : List ℕ). bit_at x c) (sym (drop-drop b (i * step_of rows) z)) ∙ bit_drop b (drop (i * step_of rows) z) c in
      place w ∙ bit_kept i (8 * b + c) h (omega (arith, bytes_enough width)) (omega (arith, step_is rows, bytes_enough rows)) ∙ sym (place w₀))

  -- the product's rows are those of T for the points
  whole_part : key_of m (take width (drop 0 points)) g ≡ key
  whole_part = ap (λ (l : List ℕ). key_of m l g) (take_all width points (omega arith))

  pub product_tail : (i : ℕ) → i < rows → block_row rows width w i ≡ tail_row m points g rows w₀ i
  unfolding block_row tail_row key_of
  product_tail i h =
      ap₂ (sum_rows width) (right_kept i h) front_rows
      ∙ ap (λ (k : Key). sum_rows width (right_row rows w₀ i) (parity_rows k)) (sym whole_part)
      ∙ sym (block_product key refl 0 width (omega arith) (right_row rows w₀ i))
