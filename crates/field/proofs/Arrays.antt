-- Lists of naturals, as programs hold them, as polynomials over GF(2^m) and as lists of points. Assumes nothing.
use mathlib.Core.Path.{◌≡◌, refl, sym, ap, ap₂, ◌∙◌, fun_ext}
use mathlib.Core.Logic.{◌≢◌}
use mathlib.Core.Bool.{true}
use mathlib.Core.List.{List, [], ◌∷◌, ◌++◌, map}
use Prim.Native.Nat.{ℕ, zero, suc, ◌%◌, ◌^◌, ◌≤◌, ◌<◌}
use native.Mathlib.Omega.{arith}
use native.Mathlib.Decide.{dec_lt}
use lib.ListN.{length, get_or, set, replicate, get_or-eq_default}
use lib.Seq.{ext_get_or, get_or-set_same, get_or-set_other}
use lib.Pow.{pow_pos}
use borrow.Author.Tests.{ltb-true, lt-ltb}
use Rattle.bits.specs.Xor.{◌⊕◌}
use Rattle.bits.specs.Bits.{every, each_with, xor_row}
use Rattle.bits.proofs.Xor.{xor_lt}
use Rattle.bits.proofs.Lists.{every-at, every_all}
use Rattle.bits.proofs.Rows.{get_d_xor_row}
use Rattle.algebra.proofs.Ring.{zero-add}
use Rattle.algebra.proofs.Points.{All, Distinct}
use Rattle.algebra.proofs.Series as S
use Rattle.algebra.proofs.Series.{Series, operations, C-at, C-zero, split, shift}
use Rattle.algebra.proofs.Poly.{Below, below_zero}
use Rattle.algebra.proofs.Eval.{eval}
use Rattle.field.specs.Field.{is_element, mul}
use Rattle.field.specs.Poly.{value}
use Rattle.field.proofs.Table.{Width}
use Rattle.field.proofs.Laws.{mul-zero, mul-lt, mul_low}
use Rattle.field.proofs.Gf.{Elem, val, val_elem, val_inj, val-zero, val-xor, val-mul, plus, times, laws}

-- every entry is an element
abbrev pub Elements : ℕ → List ℕ → Type 0
Elements m xs = (k : ℕ) → get_or xs k 0 < 2 ^ m

pub every-elements : (m : ℕ) (xs : List ℕ) → every (is_element m) xs ≡ true → Elements m xs
unfolding is_element
every-elements m xs e k = elim (dec_lt k (length xs)) [
  | yes h ↦ ltb-true (get_or xs k 0) (2 ^ m) (every-at (is_element m) xs e k 0 h)
  | no h ↦ rw (get_or-eq_default xs 0 {n = k} (omega arith)) (pow_pos m)
]

pub elements-every : (m : ℕ) (xs : List ℕ) → Elements m xs → every (is_element m) xs ≡ true
unfolding is_element
elements-every m xs e = every_all (is_element m) xs 0 (λ i h. lt-ltb _ _ (e i))

-- what a map makes are elements
pub map-elements : (m : ℕ) (f : ℕ → ℕ) → ((x : ℕ) → f x < 2 ^ m) → (xs : List ℕ) → Elements m (map f xs)
map-elements m f h [] k = pow_pos m
map-elements m f h (x ∷ xs) zero = h x
map-elements m f h (x ∷ xs) (suc k) = map-elements m f h xs k

-- and so are sums of elements, and shifted multiples
pub elements-xor : (m : ℕ) (c t : List ℕ) → Elements m c → Elements m t → Elements m (xor_row c t)
unfolding xor_row each_with
elements-xor m [] t hc ht k = hc k
elements-xor m (x ∷ c) [] hc ht k = hc k
elements-xor m (x ∷ c) (y ∷ t) hc ht zero = xor_lt m (hc 0) (ht 0)
elements-xor m (x ∷ c) (y ∷ t) hc ht (suc k) = elements-xor m c t (λ i. hc (suc i)) (λ i. ht (suc i)) k

pub elements_shifted : (m f y : ℕ) (b : List ℕ) → Elements m (replicate y 0 ++ map (mul m f) b)
elements_shifted m f zero b k = map-elements m (mul m f) (mul-lt m f) b k
elements_shifted m f (suc y) b zero = pow_pos m
elements_shifted m f (suc y) b (suc k) = elements_shifted m f y b k

-- a multiple at each place
pub multiple_at : (m c : ℕ) (xs : List ℕ) (k : ℕ) → get_or (map (mul m c) xs) k 0 ≡ mul m c (get_or xs k 0)
multiple_at m c [] k = sym (mul-zero m c)
multiple_at m c (x ∷ xs) zero = refl
multiple_at m c (x ∷ xs) (suc k) = multiple_at m c xs k

-- Horner's rule from the lowest coefficient
pub value-nil : (m a : ℕ) → value m [] a ≡ 0
unfolding value
value-nil m a = refl

pub value-cons : (m x : ℕ) (xs : List ℕ) (a : ℕ) → value m (x ∷ xs) a ≡ x ⊕ mul m a (value m xs a)
unfolding value
value-cons m x xs a = refl

-- the m low digits of a decide
pub value_low : (m : ℕ) (xs : List ℕ) (a : ℕ) → value m xs (a % 2 ^ m) ≡ value m xs a
unfolding value
value_low m [] a = refl
value_low m (x ∷ xs) a = ap (◌⊕◌ x) (mul_low m a _ ∙ ap (mul m a) (value_low m xs a))

-- a value is an element
pub value-lt : (m : ℕ) (xs : List ℕ) → Elements m xs → (a : ℕ) → value m xs a < 2 ^ m
unfolding value
value-lt m [] e a = pow_pos m
value-lt m (x ∷ xs) e a = xor_lt m (e 0) (mul-lt m a (value m xs a))

-- the polynomial with these coefficients
abbrev pub poly : (m : ℕ) → List ℕ → Series (Elem m)
poly m xs k = val m (get_or xs k 0)

-- the list of the first n coefficients
module _ (m : ℕ) where
  unfoldable pub array : ℕ → Series (Elem m) → List ℕ
  array zero p = []
  array (suc n) p = (p 0).0 ∷ array n (λ i. p (suc i))

  pub length-array : (n : ℕ) (p : Series (Elem m)) → length (array n p) ≡ n
  unfolding array
  length-array zero p = refl
  length-array (suc n) p = ap suc (length-array n (λ i. p (suc i)))

  pub array_at : (n : ℕ) (p : Series (Elem m)) (k : ℕ) → k < n → get_or (array n p) k 0 ≡ (p k).0
  unfolding array
  array_at zero p k h = absurd (omega arith)
  array_at (suc n) p zero h = refl
  array_at (suc n) p (suc k) h = array_at n (λ i. p (suc i)) k (omega arith)

  pub array-elements : (n : ℕ) (p : Series (Elem m)) → Elements m (array n p)
  array-elements n p k = elim (dec_lt k n) [
    | yes h ↦ rw (array_at n p k h) (p k).1
    | no h ↦ rw (get_or-eq_default (array n p) 0 {n = k} (omega (arith, length-array n p))) (pow_pos m)
  ]

  -- a store changes one coefficient
  pub poly_set_same : (xs : List ℕ) (i v : ℕ) → i < length xs → poly m (set xs i v) i ≡ val m v
  poly_set_same xs i v h = ap (val m) (get_or-set_same xs i v 0 h)

  pub poly_set_other : (xs : List ℕ) (i v k : ℕ) → k ≢ i → poly m (set xs i v) k ≡ poly m xs k
  poly_set_other xs i v k n = ap (val m) (get_or-set_other xs i k v 0 n)

  -- lists of elements of one length are equal where their polynomials are
  pub poly_inj : (xs ys : List ℕ) → length xs ≡ length ys → Elements m xs → Elements m ys → poly m xs ≡ poly m ys → xs ≡ ys
  poly_inj xs ys l ex ey e = ext_get_or 0 xs ys l λ i h. val_inj m (ex i) (ey i) (ap (λ p. p i) e)

  -- a list as a list of points
  abbrev pub points : List ℕ → List (Elem m)
  points xs = map (val m) xs

  pub all_points : (P : Elem m → Type 0) (xs : List ℕ) → ((i : ℕ) → i < length xs → P (val m (get_or xs i 0))) → All P (points xs)
  all_points P [] h = tt
  all_points P (x ∷ xs) h = (h 0 (omega arith), all_points P xs (λ i l. h (suc i) (omega arith)))

  pub distinct_points : (xs : List ℕ) → Elements m xs → ((i j : ℕ) → i < j → j < length xs → get_or xs i 0 ≢ get_or xs j 0) → Distinct (points xs)
  distinct_points [] e d = tt
  distinct_points (x ∷ xs) e d = (
    all_points (λ b. ¬ (val m x ≡ b)) xs (λ j l q. d 0 (suc j) (omega arith) (omega arith) (val_inj m (e 0) (e (suc j)) q)),
    distinct_points xs (λ k. e (suc k)) (λ i j l h. d (suc i) (suc j) (omega arith) (omega arith)),
  )

module _ (m : ℕ) (W : Width m) where
  open operations (laws m W) use {◌⊞◌, ◌⊠◌, O, C, X, series}

  infixl 65 ◌⊞◌
  infixl 70 ◌⊠◌
  pub poly_below : (xs : List ℕ) → Below (laws m W) (length xs) (poly m xs)
  poly_below xs k h = ap (val m) (get_or-eq_default xs 0 h) ∙ val-zero m

  pub poly_nil : poly m [] ≡ O
  poly_nil = below_zero (laws m W) (poly_below [])

  pub poly_cons : (x : ℕ) (xs : List ℕ) → poly m (x ∷ xs) ≡ C (val m x) ⊞ X ⊠ poly m xs
  unfolding S.tail
  poly_cons x xs = split (laws m W) (poly m (x ∷ xs))

  -- Horner's rule
  pub poly_value : (xs : List ℕ) (a : ℕ) → eval (laws m W) (length xs) (poly m xs) (val m a) ≡ val m (value m xs a)
  unfolding eval value
  poly_value [] a = sym (val-zero m)
  poly_value (x ∷ xs) a = sym (val-xor m x _ ∙ ap (plus m (val m x)) (val-mul m a _ ∙ ap (times m (val m a)) (sym (poly_value xs a))))

  -- every polynomial is that of a list
  pub poly_array : (n : ℕ) (p : Series (Elem m)) → Below (laws m W) n p → poly m (array m n p) ≡ p
  poly_array n p b = fun_ext λ k. elim (dec_lt k n) [
    | yes h ↦ ap (val m) (array_at m n p k h) ∙ val_elem m (p k)
    | no h ↦ poly_below (array m n p) k (omega (arith, length-array m n p)) ∙ sym (b k (omega arith))
  ]

  -- sum, multiple and shift of lists
  pub poly_xor : (xs ys : List ℕ) → length ys ≤ length xs → poly m (xor_row xs ys) ≡ poly m xs ⊞ poly m ys
  unfolding S.◌⊞◌
  poly_xor xs ys l = fun_ext λ k. ap (val m) (get_d_xor_row xs ys k l) ∙ val-xor m _ _

  pub poly_scale : (c : ℕ) (xs : List ℕ) → poly m (map (mul m c) xs) ≡ C (val m c) ⊠ poly m xs
  poly_scale c xs = fun_ext λ k. ap (val m) (multiple_at m c xs k) ∙ val-mul m c _ ∙ sym (C-at (laws m W) (val m c) (poly m xs) k)

  pub poly_shift : (y : ℕ) (xs : List ℕ) → poly m (replicate y 0 ++ xs) ≡ shift (laws m W) y (poly m xs)
  unfolding shift
  poly_shift zero xs = refl
  poly_shift (suc y) xs =
      poly_cons 0 (replicate y 0 ++ xs)
      ∙ ap₂ (λ c p. c ⊞ X ⊠ p) (ap C (val-zero m) ∙ C-zero (laws m W)) (poly_shift y xs)
      ∙ zero-add series _
