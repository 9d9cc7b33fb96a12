-- A row of bytes whose right half is a row of the identity. Assumes nothing.
use mathlib.Core.Path.{◌≡◌, refl, sym, ap, ap₂, ◌∙◌, subst}
use mathlib.Core.List.{List, [], ◌∷◌, ◌++◌, map, map-append}
use Prim.Native.Nat.{ℕ, zero, suc, ◌+◌, ◌-◌, ◌*◌, ◌/◌, ◌≤◌, ◌<◌}
use native.Mathlib.Nat.{zero-add, mul-le-mul_left, mul-le-mul_right, not-suc-le-zero, le_of_suc-le-suc}
use native.Mathlib.Numerals.{add-one}
use native.Mathlib.Omega.{arith}
use lib.ListN.{length, take, drop, set, replicate, length-drop, length-append, length-replicate, take-append-drop}
use lib.Seq.{drop-drop, drop_at, length-take-le, set_split, drop-append-le, drop-set-lt}
use Rattle.bits.specs.Bits.{from, bytes_for, bit_at, unpack, set_bit, over}
use Rattle.bits.proofs.Lists.{cons_eq, map-from, from-add}
use Rattle.bits.proofs.Parts.{rows_in, next_row}
use Rattle.bits.proofs.Padded.{drop_zeros}
use Rattle.bits.proofs.Pack.{bit_drop, unpack-add, unpack-set_bit, byte_below, bytes_enough}
use Rattle.poly.specs.Polynomials.{same}
use Rattle.code.specs.PublicKey.{Matrix, echelon}
use Rattle.code.specs.Lock.{rows_of}
use Rattle.elimination.specs.Elimination.{eliminates}
use Rattle.elimination.proofs.Sizes.{sizes_fit, eliminated}
use Rattle.code.proofs.PackedRows.{rows_snoc, rows_front, unpack-append, unpack_zeros}
use Rattle.small_key.specs.Inverse.{unit_row}
use Rattle.inversion.specs.Inversion.{pair_bits, unit_bytes, beside_row, beside_rows}

-- the bytes of a row
pub pair_bytes : (rows : ℕ) → bytes_for (pair_bits rows) ≡ bytes_for rows + bytes_for rows
unfolding pair_bits bytes_for
pair_bytes rows = omega arith

pub few_bytes : (rows : ℕ) → rows ≤ 4096 → bytes_for rows ≤ 512
unfolding bytes_for
few_bytes rows h = omega arith

pub places_fit : (r rows : ℕ) → r < rows → rows ≤ 4096 → r * (bytes_for rows + bytes_for rows) + bytes_for rows + (bytes_for rows + bytes_for rows) ≤ 4096 * 1024 + 512
places_fit r rows h l =
    let b : ℕ = bytes_for rows in
    let f : b ≤ 512 = few_bytes rows l in
    let a : rows * (b + b) ≤ 4096 * (b + b) = mul-le-mul_right (b + b) l in
    let d : b + b ≤ 1024 = omega arith in
    let c : 4096 * (b + b) ≤ 4096 * 1024 = mul-le-mul_left 4096 d in
    omega (arith, rows_in r rows (b + b) h)

pub halves : (rows : ℕ) (s : List ℕ) → unpack (pair_bits rows) s ≡ unpack (8 * bytes_for rows) s ++ unpack rows (drop (bytes_for rows) s)
unfolding pair_bits unpack
halves rows s =
    let b : ℕ = bytes_for rows in
    unpack-add (8 * b) rows s
    ∙ ap (λ (x : List ℕ). unpack (8 * b) s ++ x)
    (map-from (bit_at s) (bit_at (drop b s)) (8 * b) 0 rows (λ i h. sym (bit_drop b s i) ∙ ap (bit_at (drop b s)) (sym (zero-add i))))

take_zeros : (i n : ℕ) → i ≤ n → take i (replicate {A = ℕ} n 0) ≡ replicate i 0
take_zeros zero n h = refl
take_zeros (suc i) zero h = absurd (not-suc-le-zero h)
take_zeros (suc i) (suc n) h = cons_eq refl (take_zeros i n (le_of_suc-le-suc h))

unpack_unit : (rows i : ℕ) (s : List ℕ) → i < rows → unpack rows (unit_bytes (bytes_for rows) i s) ≡ unit_row rows i
unfolding unit_bytes unit_row over
unpack_unit rows i s h =
    let b : ℕ = bytes_for rows in
    let z : List ℕ = replicate b 0 in
    let e : unpack rows (over z s) ≡ replicate rows 0 = unpack-append rows z _ (omega (arith, length-replicate {A = ℕ} b 0)) ∙ unpack_zeros rows b in
    unpack-set_bit rows (over z s) i 1 (omega (arith, byte_below rows i h, length-append z (drop (length z) s), length-replicate {A = ℕ} b 0))
    ∙ ap (λ (x : List ℕ). set x i 1) e
    ∙ set_split (replicate rows 0) i 1 (omega (arith, length-replicate {A = ℕ} rows 0))
    ∙ ap₂ (λ (x y : List ℕ). x ++ (1 ∷ y)) (take_zeros i rows (omega arith))
    (drop_zeros (suc i) rows ∙ ap (λ (x : ℕ). replicate (rows - x) 0) (sym (add-one i)))

-- what lies past the b bytes is as it was
unit_rest : (b i : ℕ) (s : List ℕ) → i / 8 < b → drop b (unit_bytes b i s) ≡ drop b s
unfolding unit_bytes set_bit over
unit_rest b i s h =
    let z : List ℕ = replicate b 0 in
    let l : length z ≡ b = length-replicate {A = ℕ} b 0 in
    drop-set-lt b (over z s) (i / 8) _ h ∙ drop_at z (drop (length z) s) b l ∙ ap (λ (x : ℕ). drop x s) l

-- row r, after r rows that are done; w₀ is the workspace before
module _ (rows r at : ℕ) (w₀ w : List ℕ) (less : r < rows) (place : at ≡ r * (bytes_for rows + bytes_for rows) + bytes_for rows)
    (room : r * (bytes_for rows + bytes_for rows) + (bytes_for rows + bytes_for rows) ≤ length w)
    (rest : drop (r * (bytes_for rows + bytes_for rows)) w ≡ drop (r * (bytes_for rows + bytes_for rows)) w₀) where
  abbrev b : ℕ
  b = bytes_for rows

  abbrev x : ℕ
  x = r * (b + b)

  abbrev y : List ℕ
  y = unit_bytes b r (drop at w)

  abbrev u : List ℕ
  u = take at w ++ y

  front : length (take at w) ≡ at
  front = length-take-le at w (omega arith)

  row_place : r * bytes_for (pair_bits rows) ≡ x
  row_place = ap (◌*◌ r) (pair_bytes rows)

  whole_bytes : bytes_for (8 * b) ≡ b
  unfolding bytes_for
  whole_bytes = omega arith

  own : drop x u ≡ drop x (take at w) ++ y
  own = drop-append-le x (take at w) y (omega (arith, front))

  left_half : unpack (8 * b) (drop x u) ≡ unpack (8 * b) (drop x w₀)
  left_half =
      let p : List ℕ = drop x (take at w) in
      let l : bytes_for (8 * b) ≤ length p = omega (arith, whole_bytes, length-drop x (take at w), front) in
      ap (unpack (8 * b)) own ∙ unpack-append (8 * b) p y l ∙ sym (unpack-append (8 * b) p (drop at w) l)
      ∙ ap (unpack (8 * b))
      (sym (drop-append-le x (take at w) (drop at w) (omega (arith, front))) ∙ ap (drop x) (take-append-drop at w) ∙ rest)

  right_half : unpack rows (drop b (drop x u)) ≡ unit_row rows r
  right_half =
      ap (unpack rows) (drop-drop b x u ∙ ap (λ (k : ℕ). drop k u) (sym place) ∙ drop_at (take at w) y at front)
      ∙ unpack_unit rows r (drop at w) less

  row_done : unpack (pair_bits rows) (drop (r * bytes_for (pair_bits rows)) u) ≡ beside_row rows w₀ r
  unfolding beside_row
  row_done =
      ap (λ (k : ℕ). unpack (pair_bits rows) (drop k u)) row_place ∙ halves rows (drop x u)
      ∙ ap₂ (λ (s v : List ℕ). s ++ v) left_half right_half

  pub beside-next : rows_of r (pair_bits rows) w ≡ beside_rows rows r w₀ → rows_of (r + 1) (pair_bits rows) u ≡ beside_rows rows (r + 1) w₀
  unfolding beside_rows from
  beside-next e =
      rows_snoc r (pair_bits rows) u
      ∙ ap₂ (λ (xs : Matrix) (v : List ℕ). xs ++ (v ∷ []))
      (rows_front r (pair_bits rows) at w y (omega (arith, row_place)) (omega arith) ∙ e) row_done
      ∙ sym (ap (map (beside_row rows w₀)) (from-add 0 r 1) ∙ map-append (beside_row rows w₀) (from 0 r) (from (0 + r) 1)
      ∙ ap (λ (k : ℕ). map (beside_row rows w₀) (from 0 r) ++ (beside_row rows w₀ k ∷ [])) (zero-add r))

  pub beside_rest : drop ((r + 1) * (b + b)) u ≡ drop ((r + 1) * (b + b)) w₀
  beside_rest =
      let k : (r + 1) * (b + b) ≡ at + b = omega (arith, next_row r (b + b)) in
      let j : at + b ≡ x + (b + b) = omega arith in
      ap (λ (i : ℕ). drop i u) k ∙ sym (drop-drop b at u) ∙ ap (drop b) (drop_at (take at w) y at front)
      ∙ unit_rest b r (drop at w) (byte_below rows r less) ∙ drop-drop b at w ∙ ap (λ (i : ℕ). drop i w) j
      ∙ sym (drop-drop (b + b) x w) ∙ ap (drop (b + b)) rest ∙ drop-drop (b + b) x w₀ ∙ ap (λ (i : ℕ). drop i w₀) (sym (k ∙ j))

-- the sizes of an elimination
pub pair_few : (rows : ℕ) → rows ≤ 4088 → pair_bits rows ≤ 8192
unfolding pair_bits bytes_for
pair_few rows h = omega arith

pub pair_more : (rows : ℕ) → rows ≤ pair_bits rows
unfolding pair_bits
pair_more rows = omega (arith, bytes_enough rows)

-- w₁ holds [A|I] and is eliminated
module _ (rows n : ℕ) (w₀ w₁ : List ℕ) (size : n ≡ pair_bits rows) (few : rows ≤ 4088)
    (within : rows * (bytes_for rows + bytes_for rows) ≤ length w₁)
    (made : rows_of rows (pair_bits rows) w₁ ≡ beside_rows rows rows w₀) where
  pub invert_answer : eliminates rows n w₁ ≡ same (echelon (pair_bits rows) (beside_rows rows rows w₀)).pivots (from 0 rows)
  invert_answer =
      ap (λ (x : ℕ). eliminates rows x w₁) size
      ∙ sym (eliminated rows (pair_bits rows) w₁
      (sizes_fit rows (pair_bits rows) w₁ (pair_more rows) (pair_few rows few) (omega (arith, ap (◌*◌ rows) (pair_bytes rows)))))
      ∙ ap (λ (m : Matrix). same (echelon (pair_bits rows) m).pivots (from 0 rows)) made

  pub invert_rows : (w₂ : List ℕ) → rows_of rows n w₂ ≡ (echelon n (rows_of rows n w₁)).done
      → rows_of rows (pair_bits rows) w₂ ≡ (echelon (pair_bits rows) (beside_rows rows rows w₀)).done
  invert_rows w₂ h =
      subst (λ (x : ℕ). rows_of rows x w₂ ≡ (echelon x (rows_of rows x w₁)).done) size h
      ∙ ap (λ (m : Matrix). (echelon (pair_bits rows) m).done) made

  pub invert_rest : (w₂ : List ℕ) → drop (rows * bytes_for n) w₂ ≡ drop (rows * bytes_for n) w₁
      → drop (rows * (bytes_for rows + bytes_for rows)) w₂ ≡ drop (rows * (bytes_for rows + bytes_for rows)) w₁
  invert_rest w₂ h = subst (λ (x : ℕ). drop (rows * x) w₂ ≡ drop (rows * x) w₁) (ap bytes_for size ∙ pair_bytes rows) h
