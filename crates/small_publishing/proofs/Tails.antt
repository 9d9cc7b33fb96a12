-- The rows of T from the inverted workspace. Assumes nothing.
use mathlib.Core.Path.{◌≡◌, refl, sym, ap, ◌∙◌, subst}
use mathlib.Core.Bool.{true, false, not}
use mathlib.Core.List.{List, ◌++◌, map, map-map, flat_map}
use mathlib.Core.Option.{none, some}
use Prim.Native.Nat.{ℕ, zero, suc, ◌+◌, ◌-◌, ◌*◌, ◌/◌, ◌%◌, ◌^◌, ◌≤◌, ◌<◌}
use native.Mathlib.Nat.{zero-add}
use native.Mathlib.Omega.{arith}
use lib.ListN.{length, get_or, take, drop, length-drop}
use lib.Seq.{length-take-le, get_or-take, get_or-drop, drop_at, drop-drop}
use Rattle.bits.specs.Bits.{from, bytes_for, unpack, pack, over, dot}
use Rattle.bits.proofs.Lists.{map-from, map_at, length-map-from}
use Rattle.bits.proofs.Pack.{row_length, unpack-at, unpack-take, length-unpack, length-pack, bytes_enough}
use Rattle.bits.proofs.Padded.{over-at}
use Rattle.poly.specs.Polynomials.{same}
use Rattle.key.specs.Keys.{Key, key_of, goppa_at}
use Rattle.code.specs.Code.{entry, parity_row, parity_rows}
use Rattle.code.specs.PublicKey.{Matrix, echelon, public_key, dependent, written}
use Rattle.code.specs.Lock.{row_of, rows_of}
use Rattle.code.proofs.Kernel.{row_parity_row}
use Rattle.parity.specs.Rows.{over_rows}
use Rattle.small_key.specs.Inverse.{parity_column, product_row}
use Rattle.inversion.specs.Inversion.{pair_bits, beside_rows}
use Rattle.inversion.proofs.Beside.{pair_bytes, halves}
use Rattle.inversion.proofs.Inverted.{inverted_none, inverted_some}
use Rattle.block_product.specs.Blocks.{step_of, right_row}
use Rattle.block_product.proofs.Groups.{step_is}
use Rattle.column_blocks.specs.Tails.{tail_row}
use Rattle.column_blocks.proofs.BlockRows.{row_written_lem}

-- the first columns of H, written in front of the rows of a workspace
module _ (m : ℕ) (s g : List ℕ) (rows : ℕ) (w₀ w : List ℕ) (count : m * length g ≡ rows) (less : rows ≤ length s)
    (made : rows_of rows (8 * step_of rows) w ≡ over_rows (parity_rows (key_of m (take rows s) g)) (rows_of rows (8 * step_of rows) w₀)) where
  abbrev first : Key
  first = key_of m (take rows s) g

  abbrev whole : Key
  whole = key_of m s g

  first_count : first.m * first.t ≡ rows
  unfolding key_of
  first_count = count

  first-length : length (take rows s) ≡ rows
  first-length = length-take-le rows s less

  parity-length : (i : ℕ) → length (parity_row first i) ≡ rows
  unfolding key_of
  parity-length i = row_length (row_parity_row first i) ∙ first-length

  -- both keys have the same first columns
  same_column : (i c : ℕ) → c < rows → get_or (parity_row first i) c 0 ≡ get_or (parity_row whole i) c 0
  unfolding parity_row key_of entry goppa_at
  same_column i c h =
      let f : ℕ → ℕ = λ a. entry whole (i / m) a / 2 ^ (i % m) % 2 in
      map_at f (take rows s) c 0 0 (omega (arith, first-length)) ∙ ap f (get_or-take rows s c 0 h) ∙ sym (map_at f s c 0 0 (omega arith))

  pub left_at : (i c : ℕ) → i < rows → c < rows → get_or (unpack (8 * bytes_for rows) (drop (i * (bytes_for rows + bytes_for rows)) w)) c 0 ≡ get_or (parity_row whole i) c 0
  left_at i c h l =
      let u : List ℕ = drop (i * step_of rows) w in
      let e : i * (bytes_for rows + bytes_for rows) ≡ i * step_of rows = ap (◌*◌ i) (sym (step_is rows)) in
      ap (λ (x : ℕ). get_or (unpack (8 * bytes_for rows) (drop x w)) c 0) e
      ∙ unpack-at (8 * bytes_for rows) u c 0 (omega (arith, bytes_enough rows))
      ∙ sym (unpack-at (8 * step_of rows) u c 0 (omega (arith, bytes_enough rows, step_is rows)))
      ∙ ap (λ (r : List ℕ). get_or r c 0) (row_written_lem first rows (step_of rows) w₀ w first_count made i h)
      ∙ over-at (parity_row first i) (unpack (8 * step_of rows) (drop (i * step_of rows) w₀)) rows (parity-length i) c l
      ∙ same_column i c l

-- the right half of a row of [I|B]
half_row : (rows i : ℕ) (w : List ℕ) → drop (8 * bytes_for rows) (unpack (pair_bits rows) (row_of (pair_bits rows) w i)) ≡ right_row rows w i
unfolding row_of right_row
half_row rows i w =
    let b : ℕ = bytes_for rows in
    let u : List ℕ = drop (i * (b + b)) w in
    let e : i * (b + b) ≡ i * step_of rows = ap (◌*◌ i) (sym (step_is rows)) in
    ap (λ (x : ℕ). drop (8 * b) (unpack (pair_bits rows) (take x (drop (i * x) w)))) (pair_bytes rows)
    ∙ ap (drop (8 * b)) (unpack-take (pair_bits rows) (b + b) u (omega (arith, pair_bytes rows)) ∙ halves rows u)
    ∙ drop_at (unpack (8 * b) u) (unpack rows (drop b u)) (8 * b) (length-unpack (8 * b) u)
    ∙ ap (unpack rows) (drop-drop b (i * (b + b)) w ∙ ap (λ (x : ℕ). drop (x + b) w) e)

-- the columns of H behind the first ones are those for the other points
module _ (m : ℕ) (s g : List ℕ) (rows : ℕ) (count : m * length g ≡ rows) (less : rows ≤ length s) where
  abbrev key : Key
  key = key_of m s g

  abbrev pub others : List ℕ
  others = drop rows s

  abbrev tail_key : Key
  tail_key = key_of m others g

  later_column : (c : ℕ) → parity_column key (rows + c) ≡ parity_column tail_key c
  unfolding parity_column key_of entry goppa_at
  later_column c = ap (λ (a : ℕ). map (λ r. entry key (r / m) a / 2 ^ (r % m) % 2) (from 0 (m * length g))) (sym (get_or-drop rows s c 0))

  pub product_row_lem : (w : List ℕ) (i : ℕ) → product_row key (unpack (pair_bits rows) (row_of (pair_bits rows) w i)) ≡ tail_row m others g rows w i
  unfolding product_row tail_row key_of
  product_row_lem w i =
      let r : List ℕ = unpack (pair_bits rows) (row_of (pair_bits rows) w i) in
      let x : List ℕ = right_row rows w i in
      let e : length others ≡ length s - rows = length-drop rows s in
      ap (λ (q : ℕ). map (λ c. dot (drop (8 * bytes_for q) r) (parity_column key c)) (from q (length s - q))) count
      ∙ ap (λ (z : List ℕ). map (λ c. dot z (parity_column key c)) (from rows (length s - rows))) (half_row rows i w)
      ∙ map-from (λ c. dot x (parity_column key c)) (λ c. dot x (parity_column tail_key c)) rows 0 (length s - rows)
      (λ c h. ap (dot x) (later_column c ∙ ap (parity_column tail_key) (sym (zero-add c))))
      ∙ ap (λ (q : ℕ). map (λ c. dot x (parity_column tail_key c)) (from 0 q)) (sym e)

  pub tail_length : (w : List ℕ) (i : ℕ) → length (pack (tail_row m others g rows w i)) ≡ bytes_for (length s - rows)
  unfolding tail_row
  tail_length w i =
      length-pack (tail_row m others g rows w i) ∙ ap bytes_for (length-map-from _ 0 (length others) ∙ length-drop rows s)

  flat_map_lem : (h : ℕ → List ℕ) (k n : ℕ) → flat_map pack (map h (from k n)) ≡ flat_map (λ i. pack (h i)) (from k n)
  unfolding flat_map from
  flat_map_lem h k zero = refl
  flat_map_lem h k (suc n) = ap (λ (z : List ℕ). pack (h k) ++ z) (flat_map_lem h (suc k) n)

  -- w₁ holds the first columns and is inverted: w₂
  module _ (w₁ w₂ : List ℕ)
      (left : (i c : ℕ) → i < rows → c < rows → get_or (unpack (8 * bytes_for rows) (drop (i * (bytes_for rows + bytes_for rows)) w₁)) c 0 ≡ get_or (parity_row key i) c 0) where
    left_key : (i c : ℕ) → i < key.m * key.t → c < key.m * key.t
        → get_or (unpack (8 * bytes_for (key.m * key.t)) (drop (i * (bytes_for (key.m * key.t) + bytes_for (key.m * key.t))) w₁)) c 0 ≡ get_or (parity_row key i) c 0
    unfolding key_of
    left_key =
        subst (λ (q : ℕ). (i c : ℕ) → i < q → c < q → get_or (unpack (8 * bytes_for q) (drop (i * (bytes_for q + bytes_for q)) w₁)) c 0 ≡ get_or (parity_row key i) c 0)
        (sym count) left

    fits : key.m * key.t ≤ key.n
    unfolding key_of
    fits = subst (λ (q : ℕ). q ≤ length s) (sym count) less

    pub no_rows : same (echelon (pair_bits rows) (beside_rows rows rows w₁)).pivots (from 0 rows) ≡ false → public_key key ≡ none
    unfolding key_of
    no_rows e =
        inverted_none key w₁ refl fits left_key
        (subst (λ (q : ℕ). same (echelon (pair_bits q) (beside_rows q q w₁)).pivots (from 0 q) ≡ false) (sym count) e)

    pub public_rows : same (echelon (pair_bits rows) (beside_rows rows rows w₁)).pivots (from 0 rows) ≡ true
        → rows_of rows (pair_bits rows) w₂ ≡ (echelon (pair_bits rows) (beside_rows rows rows w₁)).done
        → public_key key ≡ some (map (λ i. tail_row m others g rows w₂ i) (from 0 rows))
    unfolding key_of rows_of
    public_rows e d =
        inverted_some key w₁ refl fits left_key
        (subst (λ (q : ℕ). same (echelon (pair_bits q) (beside_rows q q w₁)).pivots (from 0 q) ≡ true) (sym count) e)
        ∙ ap (λ (q : ℕ). some (map (product_row key) (echelon (pair_bits q) (beside_rows q q w₁)).done)) count
        ∙ ap (λ (z : Matrix). some (map (product_row key) z)) (sym d)
        ∙ ap some
        (map-map (product_row key) (λ r. unpack (pair_bits rows) (row_of (pair_bits rows) w₂ r)) (from 0 rows)
        ∙ map-from (λ r. product_row key (unpack (pair_bits rows) (row_of (pair_bits rows) w₂ r))) (λ i. tail_row m others g rows w₂ i) 0 0 rows
        (λ i h. product_row_lem w₂ (0 + i)))

    pub written_rows : public_key key ≡ some (map (λ i. tail_row m others g rows w₂ i) (from 0 rows))
        → flat_map (λ i. pack (tail_row m others g rows w₂ i)) (from 0 rows) ≡ written (public_key key)
    unfolding written
    written_rows e = sym (flat_map_lem (λ i. tail_row m others g rows w₂ i) 0 rows) ∙ sym (ap written e)

-- what follows from there being no rows, or some
pub no_answer_lem : (k : Key) → public_key k ≡ none → false ≡ not (dependent k)
unfolding dependent
no_answer_lem k e = rw (dependent, e)

pub nothing_written : (k : Key) → public_key k ≡ none → (out : List ℕ) → out ≡ over (written (public_key k)) out
unfolding written over
nothing_written k e out = rw e

pub answered : (k : Key) (rows : Matrix) → public_key k ≡ some rows → true ≡ not (dependent k)
unfolding dependent
answered k rows e = rw (dependent, e)
