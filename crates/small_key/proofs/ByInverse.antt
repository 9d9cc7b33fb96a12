-- The public key by the inverse of H's left part is the public key. Assumes nothing.
use mathlib.Core.Path.{◌≡◌, refl, sym, ap, ap₂, ◌∙◌, subst}
use mathlib.Core.Bool.{Bool, true, false, cond}
use mathlib.Core.List.{List, [], ◌∷◌, ◌++◌, map, map-map}
use mathlib.Core.Option.{none, some}
use Prim.Native.Nat.{ℕ, zero, suc, ◌+◌, ◌-◌, ◌*◌, ◌/◌, ◌%◌, ◌^◌, ◌≤◌, ◌<◌}
use native.Mathlib.Nat.{zero-add, zero-mul, one-mul, mul-zero}
use native.Mathlib.Decide.{dec_lt}
use native.Mathlib.Omega.{arith}
use borrow.Author.Tests.{lt-ltb, le-ltb}
use lib.Dec.{ltb}
use lib.ListN.{length, get_or, drop, replicate, length-map, get_or-append}
use lib.Seq.{drop_at, ext_get_or}
use Rattle.bits.specs.Xor.{◌⊕◌}
use Rattle.bits.specs.Bits.{Row, on, from, dot}
use Rattle.bits.proofs.Xor.{zero_xor, xor-zero}
use Rattle.bits.proofs.Lists.{length_from, from-add, map-append, map_at, map-from, map-from-at, length-map-from}
use Rattle.bits.proofs.Pack.{row_length, row_zeros, row_append, bytes_enough}
use Rattle.bits.proofs.Product.{dot_comm, dot_zeros}
use Rattle.poly.specs.Polynomials.{same}
use Rattle.key.specs.Keys.{Key}
use Rattle.code.specs.Code.{entry, parity_row, parity_rows}
use Rattle.code.specs.PublicKey.{Matrix, clear, echelon, public_key}
use Rattle.code.proofs.Kernel.{Rows, row_parity_row, dot-clear}
use Rattle.code.proofs.Kernel as kernel
use Rattle.code.proofs.Identity.{clear_at}
use Rattle.code.proofs.PublicKey.{public_none, public_some}
use Rattle.small_key.specs.Inverse.{unit_row, left_bits, both_bits, beside_identity, parity_column, product_row}
use Rattle.small_key.proofs.Images.{image_pivots, image_done}

-- the product of what lies behind the first m bits
dot-drop : (m : ℕ) (s v : List ℕ) → dot (drop m s) v ≡ dot s (replicate m 0 ++ v)
unfolding dot
dot-drop zero s v = refl
dot-drop (suc m) [] v = refl
dot-drop (suc m) (x ∷ s) v =
    dot-drop m s v ∙ sym (ap (λ (y : ℕ). y ⊕ dot s (replicate m 0 ++ v)) (mul-zero x) ∙ zero_xor (dot s (replicate m 0 ++ v)))

-- the product with a row of the identity
dot_unit : (i z : ℕ) (v : List ℕ) → dot (replicate i 0 ++ (1 ∷ replicate z 0)) v ≡ get_or v i 0
unfolding dot
dot_unit zero z [] = refl
dot_unit zero z (y ∷ v) = ap₂ ◌⊕◌ (one-mul y) (dot_comm (replicate z 0) v ∙ dot_zeros v z) ∙ xor-zero y
dot_unit (suc i) z [] = refl
dot_unit (suc i) z (y ∷ v) = ap₂ ◌⊕◌ (zero-mul y) (dot_unit i z v) ∙ zero_xor (get_or v i 0)

row_unit : (m i : ℕ) → i < m → Row m (unit_row m i)
unfolding unit_row
row_unit m i h =
    let e : i + suc (m - (i + 1)) ≡ m = omega arith in
    subst (λ (x : ℕ). Row x (unit_row m i)) e (row_append (row_zeros i) (on (row_zeros (m - (i + 1)))))

-- a list is that of its numbers
numbers : (n : ℕ) (l : List ℕ) → length l ≡ n → l ≡ map (λ c. get_or l c 0) (from 0 n)
numbers n l h =
    ext_get_or 0 l (map (λ c. get_or l c 0) (from 0 n)) (h ∙ sym (length-map-from (λ c. get_or l c 0) 0 n))
    (λ i k. sym (map-from-at (λ c. get_or l c 0) 0 n i 0 (omega arith) ∙ ap (λ (c : ℕ). get_or l c 0) (zero-add i)))

pub rows_from : {l : ℕ} (f : ℕ → List ℕ) (k n : ℕ) → ((i : ℕ) → i < k + n → Row l (f i)) → Rows l (map f (from k n))
unfolding from
rows_from f k zero h = kernel.none
rows_from f k (suc n) h = kernel.row (h k (omega arith)) (rows_from f (suc k) n (λ i b. h i (omega arith)))

-- the rows of A, the first m·t columns of H, filled up to whole bytes by any bits
module _ (k : Key) (h : length k.support ≡ k.n) (less : k.m * k.t ≤ k.n)
    (left : ℕ → List ℕ) (row-left : (i : ℕ) → Row (left_bits k) (left i))
    (left_at : (i c : ℕ) → i < k.m * k.t → c < k.m * k.t → get_or (left i) c 0 ≡ get_or (parity_row k i) c 0) where
  abbrev mt : ℕ
  mt = k.m * k.t

  abbrev lb : ℕ
  lb = left_bits k

  left_enough : mt ≤ lb
  left_enough = bytes_enough mt

  -- bit c of the row of H that belongs to a row of [A|I] under the same row operations
  bit_of : List ℕ → ℕ → ℕ
  bit_of s c = cond (ltb c mt) (get_or s c 0) (dot (drop lb s) (parity_column k c))

  bit_front : (s : List ℕ) (c : ℕ) → c < mt → bit_of s c ≡ get_or s c 0
  unfolding bit_of
  bit_front s c l = ap (λ (b : Bool). cond b (get_or s c 0) (dot (drop lb s) (parity_column k c))) (lt-ltb c mt l)

  bit_behind : (s : List ℕ) (c : ℕ) → mt ≤ c → bit_of s c ≡ dot (drop lb s) (parity_column k c)
  unfolding bit_of
  bit_behind s c l = ap (λ (b : Bool). cond b (get_or s c 0) (dot (drop lb s) (parity_column k c))) (le-ltb c mt l)

  linear : (j : ℕ) (p r : List ℕ) → Row (both_bits k) p → Row (both_bits k) r → (c : ℕ) → bit_of (clear j p r) c ≡ bit_of r c ⊕ get_or r j 0 * bit_of p c
  unfolding bit_of
  linear j p r a b c = go (ltb c mt)
    where
      v : List ℕ
      v = parity_column k c

      go : (t : Bool) → cond t (get_or (clear j p r) c 0) (dot (drop lb (clear j p r)) (parity_column k c))
          ≡ cond t (get_or r c 0) (dot (drop lb r) (parity_column k c)) ⊕ get_or r j 0 * cond t (get_or p c 0) (dot (drop lb p) (parity_column k c))
      go true = clear_at j a b c
      go false =
          dot-drop lb (clear j p r) v ∙ dot-clear j a b (replicate lb 0 ++ v)
          ∙ ap₂ (λ (x y : ℕ). x ⊕ get_or r j 0 * y) (sym (dot-drop lb r v)) (sym (dot-drop lb p v))

  keeps : (r : List ℕ) → Row (both_bits k) r → (j : ℕ) → j < mt → bit_of r j ≡ get_or r j 0
  keeps r a j l = bit_front r j l

  parity-length : (i : ℕ) → length (parity_row k i) ≡ k.n
  parity-length i = row_length (row_parity_row k i) ∙ h

  left_length : (i : ℕ) → length (left i) ≡ lb
  left_length i = row_length (row-left i)

  parity-at : (i c : ℕ) → c < k.n → get_or (parity_row k i) c 0 ≡ entry k (i / k.m) (get_or k.support c 0) / 2 ^ (i % k.m) % 2
  unfolding parity_row
  parity-at i c l = map_at (λ a. entry k (i / k.m) a / 2 ^ (i % k.m) % 2) k.support c 0 0 (rw h l)

  -- the row of H that belongs to row i of [A|I]
  beside : ℕ → List ℕ
  beside i = left i ++ unit_row mt i

  bit_beside : (i c : ℕ) → i < mt → c < k.n → bit_of (beside i) c ≡ get_or (parity_row k i) c 0
  unfolding beside unit_row parity_column
  bit_beside i c a b = go (dec_lt c mt)
    where
      go : Dec (c < mt) → bit_of (beside i) c ≡ get_or (parity_row k i) c 0
      go (yes l) =
          bit_front (beside i) c l ∙ get_or-append (left i) (unit_row mt i) 0 c (omega (arith, left_length i, left_enough)) ∙ left_at i c a l
      go (no l) =
          bit_behind (beside i) c (omega arith)
          ∙ ap (λ (s : List ℕ). dot s (parity_column k c)) (drop_at (left i) (unit_row mt i) lb (left_length i))
          ∙ dot_unit i (mt - (i + 1)) (parity_column k c)
          ∙ map-from-at (λ r. entry k (r / k.m) (get_or k.support c 0) / 2 ^ (r % k.m) % 2) 0 mt i 0 a
          ∙ ap (λ (r : ℕ). entry k (r / k.m) (get_or k.support c 0) / 2 ^ (r % k.m) % 2) (zero-add i)
          ∙ sym (parity-at i c b)

  abbrev image_row : List ℕ → List ℕ
  image_row s = map (bit_of s) (from 0 k.n)

  image_beside : (i : ℕ) → i < mt → image_row (beside i) ≡ parity_row k i
  image_beside i a =
      map-from (bit_of (beside i)) (λ c. get_or (parity_row k i) c 0) 0 0 k.n
      (λ c b. ap (bit_of (beside i)) (zero-add c) ∙ bit_beside i c a b ∙ ap (λ (x : ℕ). get_or (parity_row k i) x 0) (sym (zero-add c)))
      ∙ sym (numbers k.n (parity_row k i) (parity-length i))

  images : map image_row (beside_identity k left) ≡ parity_rows k
  unfolding beside_identity parity_rows beside
  images =
      map-map image_row beside (from 0 mt)
      ∙ map-from (λ i. image_row (beside i)) (parity_row k) 0 0 mt (λ i a. image_beside (0 + i) (rw zero-add a))

  row_beside : (i : ℕ) → i < mt → Row (both_bits k) (beside i)
  unfolding beside
  row_beside i a = row_append (row-left i) (row_unit mt i a)

  rows_beside : Rows (both_bits k) (beside_identity k left)
  unfolding beside_identity beside
  rows_beside = rows_from beside 0 mt (λ i a. row_beside i (rw zero-add at a))

  length-beside : length (beside_identity k left) ≡ mt
  unfolding beside_identity
  length-beside = length-map (from 0 mt) _ ∙ length_from 0 mt

  -- behind the first m·t bits the image is the product with the other columns
  drop_image : (s : List ℕ) → drop mt (image_row s) ≡ product_row k s
  unfolding product_row
  drop_image s =
      let e : k.n ≡ mt + (k.n - mt) = omega arith in
      ap (λ (x : ℕ). drop mt (map (bit_of s) (from 0 x))) e
      ∙ ap (drop mt) (ap (map (bit_of s)) (from-add 0 mt (k.n - mt)) ∙ map-append (bit_of s) (from 0 mt) (from (0 + mt) (k.n - mt)))
      ∙ drop_at (map (bit_of s) (from 0 mt)) (map (bit_of s) (from (0 + mt) (k.n - mt))) mt (length-map-from (bit_of s) 0 mt)
      ∙ map-from (bit_of s) (λ c. dot (drop lb s) (parity_column k c)) (0 + mt) mt (k.n - mt)
      (λ i a. ap (λ (x : ℕ). bit_of s (x + i)) (zero-add mt) ∙ bit_behind s (mt + i) (omega arith))

  drop_images : (rows : Matrix) → map (drop mt) (map image_row rows) ≡ map (product_row k) rows
  drop_images [] = refl
  drop_images (r ∷ rows) = ap₂ (λ (x : List ℕ) (xs : Matrix). x ∷ xs) (drop_image r) (drop_images rows)

  fits : mt ≤ both_bits k
  fits = omega (arith, left_enough)

  -- H can be reduced exactly where [A|I] can
  pub small_pivots : same (echelon k.n (parity_rows k)).pivots (from 0 mt) ≡ same (echelon (both_bits k) (beside_identity k left)).pivots (from 0 mt)
  small_pivots =
      ap (λ (rows : Matrix). same (echelon k.n rows).pivots (from 0 mt)) (sym images)
      ∙ image_pivots k.n mt (both_bits k) bit_of linear keeps less (beside_identity k left) rows_beside length-beside fits

  pub small_none : same (echelon (both_bits k) (beside_identity k left)).pivots (from 0 mt) ≡ false → public_key k ≡ none
  small_none e = public_none k (small_pivots ∙ e)

  -- and then T is B times the other columns of H
  pub small_some : same (echelon (both_bits k) (beside_identity k left)).pivots (from 0 mt) ≡ true
      → public_key k ≡ some (map (product_row k) (echelon (both_bits k) (beside_identity k left)).done)
  small_some e =
      public_some k (small_pivots ∙ e)
      ∙ ap some
      (ap (λ (rows : Matrix). map (drop mt) (echelon k.n rows).done) (sym images)
      ∙ ap (map (drop mt)) (image_done k.n mt (both_bits k) bit_of linear keeps less (beside_identity k left) rows_beside length-beside fits e)
      ∙ drop_images (echelon (both_bits k) (beside_identity k left)).done)
