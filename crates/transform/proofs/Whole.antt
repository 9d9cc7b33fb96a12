-- The values of any list of coefficients, at every element and at points. Assumes nothing.
use mathlib.Core.Path.{◌≡◌, sym, ap, ap₂, ◌∙◌, fun_ext}
use mathlib.Core.List.{List, [], ◌∷◌, ◌++◌, map}
use Prim.Native.Nat.{ℕ, zero, suc, ◌+◌, ◌-◌, ◌%◌, ◌^◌, ◌≤◌, ◌<◌}
use native.Mathlib.Nat.{le_of_suc-le-suc, not-suc-le-zero, mod-lt}
use native.Mathlib.Numerals.{add-one}
use native.Mathlib.Omega.{arith}
use lib.Pow.{pow_mono, pow_pos}
use lib.ListN.{length, get_or, take, drop, set, replicate, length-append}
use lib.Seq.{length-take-le, take_all, take-append_seam, get_or-append_seam}
use Rattle.bits.specs.Xor.{◌⊕◌}
use Rattle.bits.specs.Bits.{from, each_with, padded}
use Rattle.bits.proofs.Xor.{zero_xor}
use Rattle.bits.proofs.Lists.{length-map-from, map-from-at}
use Rattle.bits.proofs.Each.{each_with-nil, each_with-suc, each_with-take}
use Rattle.bits.proofs.Padded.{drop_zeros, length-padded, padded-next, padded-at}
use Rattle.field.specs.Field.{mul}
use Rattle.field.specs.Poly.{value}
use Rattle.field.proofs.Table.{Width}
use Rattle.field.proofs.Arrays.{value-nil, value-cons, value_low}
use Rattle.field.proofs.Laws.{mul-zero}
use Rattle.field.proofs.Places.{of_each_width}
use Rattle.field_places.proofs.Blocks.{block_whole}
use Rattle.poly.specs.Polynomials.{monic, values_at}
use Rattle.transform.specs.Values.{everywhere}

-- zeros behind the coefficients count for nothing
module _ (m a : ℕ) where
  value_zeros : (n r : ℕ) → value m (take n (replicate r 0)) a ≡ 0
  value_zeros zero r = value-nil m a
  value_zeros (suc n) zero = value-nil m a
  value_zeros (suc n) (suc r) =
      value-cons m 0 _ a ∙ ap (λ (v : ℕ). 0 ⊕ mul m a v) (value_zeros n r) ∙ zero_xor _ ∙ mul-zero m a

  value_behind : (n r : ℕ) (p : List ℕ) → length p ≤ n → value m (take n (p ++ replicate r 0)) a ≡ value m p a
  value_behind n r [] h = value_zeros n r ∙ sym (value-nil m a)
  value_behind zero r (x ∷ p) h = absurd (not-suc-le-zero h)
  value_behind (suc n) r (x ∷ p) h =
      value-cons m x _ a ∙ ap (λ (v : ℕ). x ⊕ mul m a v) (value_behind n r p (le_of_suc-le-suc h)) ∙ sym (value-cons m x p a)

everywhere_behind : (m n : ℕ) (p : List ℕ) → length p ≤ n → everywhere m (take n (padded 512 p)) ≡ everywhere m p
unfolding everywhere padded
everywhere_behind m n p h = ap (λ (f : ℕ → ℕ). map f (from 0 (2 ^ m))) (fun_ext λ a. value_behind m a n (512 - length p) p h)

length-everywhere : (m : ℕ) (p : List ℕ) → length (everywhere m p) ≡ 2 ^ m
unfolding everywhere
length-everywhere m p = length-map-from (value m p) 0 (2 ^ m)

-- the leading coefficient behind the others
pub monic_block : (g : List ℕ) {c : List ℕ} → c ≡ padded 512 (take 512 g) → length g < 512 → set c (length g) 1 ≡ padded 512 (monic g)
unfolding monic
monic_block g {c} e h =
    let l : List ℕ = g ++ (1 ∷ []) in
    let n : length l ≡ length g + 1 = length-append g (1 ∷ []) in
    ap₂ (λ (a : List ℕ) (x : ℕ). set a (length g) x) (block_whole g e (omega arith) ∙ ap (padded 512) (sym (take-append_seam g (1 ∷ [])))) (sym (get_or-append_seam g 1 [] 0))
    ∙ padded-next 512 l (length g) (omega arith) h ∙ ap (padded 512) (take_all (length g + 1) l (omega arith))

pub length-monic : (g : List ℕ) → length (monic g) ≡ length g + 1
unfolding monic
length-monic g = length-append g (1 ∷ [])

-- the sizes
pub prefix_length : (k n : ℕ) (p : List ℕ) {c : List ℕ} → length p ≤ 512 → k ≤ 9 → n ≡ 2 ^ k → c ≡ padded 512 p → (n ≤ length c) × (length (take n c) ≡ n)
prefix_length k n p {c} h l en ec =
    let e : length c ≡ 512 = ap length ec ∙ length-padded 512 p h in
    let i : n ≤ length c = omega (arith, en, pow_mono l) in
    (i, length-take-le n c i)

pub places_prefix : (m : ℕ) (d : List ℕ) {t : ℕ} → m < 14 → t ≡ 2 ^ m → length d ≡ 8192 → (t ≤ length d) × (length (take t d) ≡ t)
places_prefix m d {t} h e ed =
    let s : m ≤ 13 = omega arith in
    let i : t ≤ length d = omega (arith, e, pow_mono s) in
    (i, length-take-le t d i)

pub all : (m : ℕ) (p : List ℕ) {n t : ℕ} {c d y : List ℕ} → d ≡ replicate 8192 0 → length p ≤ n → t ≡ 2 ^ m → c ≡ padded 512 p
    → y ≡ everywhere m (take n c) → y ++ drop t d ≡ padded 8192 (everywhere m p)
unfolding padded
all m p {n} {t} ed l et ec ey =
    let e = ey ∙ ap (λ (r : List ℕ). everywhere m (take n r)) ec ∙ everywhere_behind m n p l in
    ap₂ ◌++◌ e (ap (drop t) ed ∙ drop_zeros t 8192 ∙ ap (λ (i : ℕ). replicate (8192 - i) 0) (et ∙ sym (length-everywhere m p)))

-- points: the first i
module _ (m : ℕ) (v d points : List ℕ) where
  unfoldable pub gathered_to : ℕ → List ℕ
  gathered_to i = each_with (λ x a. get_or v (a % 2 ^ m) 0) d (take i points)

  pub gathered_start : d ≡ gathered_to 0
  unfolding gathered_to
  gathered_start = sym (each_with-nil _ d)

  pub gathered_next : (i : ℕ) {r : List ℕ} → r ≡ gathered_to i → i < length points → i < length d
      → set r i (get_or v (get_or points i 0 % 2 ^ m) 0) ≡ gathered_to (i + 1)
  unfolding gathered_to
  gathered_next i e l h =
      ap (λ (r : List ℕ). set r i (get_or v (get_or points i 0 % 2 ^ m) 0)) e
      ∙ each_with-suc _ d points i l h ∙ ap (λ (j : ℕ). gathered_to j) (sym (add-one i))

  pub gathered_all : (i : ℕ) → (i < length points → length d ≤ i) → gathered_to i ≡ each_with (λ x a. get_or v (a % 2 ^ m) 0) d points
  unfolding gathered_to
  gathered_all i h = each_with-take _ d points i h

-- the values at every element give those at points
pub gathered_values : (m : ℕ) → Width m → (g points : List ℕ) {v r : List ℕ} → v ≡ padded 8192 (everywhere m (monic g))
    → r ≡ each_with (λ x a. get_or v (a % 2 ^ m) 0) (replicate 8192 1) points → r ≡ values_at m g points
unfolding values_at everywhere
gathered_values m w g points {v} ev er =
    er ∙ ap (λ (f : ℕ → ℕ → ℕ). each_with f (replicate 8192 1) points) (fun_ext λ x. fun_ext λ a.
    ap (λ (l : List ℕ). get_or l (a % 2 ^ m) 0) ev ∙ padded-at 8192 _ (a % 2 ^ m)
    ∙ map-from-at (value m (monic g)) 0 (2 ^ m) (a % 2 ^ m) 0 (mod-lt a (pow_pos m)) ∙ ap (value m (monic g)) (zero-plus (a % 2 ^ m)) ∙ value_low m (monic g) a)
    ∙ sym (of_each_width m (value m (monic g)) points w)
  where
    zero-plus : (n : ℕ) → 0 + n ≡ n
    zero-plus n = omega arith
