-- The weights at the places of their points: their sums over all elements are the sums over the points. Assumes nothing.
use mathlib.Core.Path.{◌≡◌, refl, sym, ap, ap₂, ◌∙◌, fun_ext}
use mathlib.Core.List.{List, [], ◌∷◌, map}
use Prim.Native.Nat.{ℕ, zero, suc, ◌+◌, ◌-◌, ◌*◌, ◌%◌, ◌^◌, ◌≤◌, ◌<◌, min}
use native.Mathlib.Nat.{mod-lt, le_of_suc-le-suc}
use native.Mathlib.Numerals.{add-one}
use native.Mathlib.Decide.{dec_lt}
use native.Mathlib.Omega.{arith}
use lib.Bits.{bit_and}
use lib.Pow.{pow_pos, pow_mono}
use lib.ListN.{length, get_or, take, drop, set, replicate, length-set, length-replicate, drop_of_length-le}
use lib.Seq.{drop-cons, get_or-set_same, get_or-set_other}
use Rattle.bits.specs.Xor.{◌⊕◌}
use Rattle.bits.specs.Bits.{from, padded}
use Rattle.bits.proofs.Bits.{zeros_at}
use Rattle.bits.proofs.Xor.{xor-zero, zero_xor, xor_assoc, xor_comm}
use Rattle.field.specs.Field.{mul, power}
use Rattle.field.proofs.Machine.{low-digits-lt}
use Rattle.field.proofs.Table.{Width, width_narrow}
use Rattle.field.proofs.Laws.{add-mul, zero-mul, power-low}
use Rattle.power_sums.specs.Sums.{sum_to, power_sums, sums_all}
use Rattle.power_sums.proofs.Moments.{sum_cong}
use Rattle.point_sums.specs.Weighted.{weighted_sum, weighted_sums}
use Rattle.point_sums.specs.Parts.{added_at, scattered}
use Rattle.point_sums.proofs.Weighted.{take_sums}

-- a point's place
pub place-lt : (m : ℕ) → Width m → (a : ℕ) → bit_and a (1 * 2 ^ m % 65536 - 1) < 8192
place-lt m u a =
    let n : m < 14 = width_narrow m u in
    omega (arith, low-digits-lt m n a, pow_mono {i = m} {j = 13} (omega arith))

-- none yet; one weight more; all
module _ (m : ℕ) (w p : List ℕ) where
  pub added-start : added_at m (replicate 8192 0) w p ≡ scattered m w p
  unfolding scattered
  added-start = refl

  module _ (d : List ℕ) where
    pub added_next : (i b : ℕ) → i < length w → i < length p → b ≡ get_or p i 0 % 2 ^ m
        → added_at m (set d b (get_or d b 0 ⊕ get_or w i 0)) (drop (i + 1) w) (drop (i + 1) p) ≡ added_at m d (drop i w) (drop i p)
    unfolding added_at
    added_next i b h k e = rw (e, add-one, drop-cons w i 0, drop-cons p i 0)

    added_none : (w : List ℕ) → added_at m d w [] ≡ d
    unfolding added_at
    added_none [] = refl
    added_none (x ∷ w) = refl

    pub added_all : (i : ℕ) → min (length w) (length p) ≤ i → added_at m d (drop i w) (drop i p) ≡ d
    unfolding added_at
    added_all i h = elim (dec_lt i (length w)) [
      | yes a ↦ ap (added_at m d (drop i w)) (drop_of_length-le p {i = i} (omega arith)) ∙ added_none (drop i w)
      | no a ↦ ap (λ (l : List ℕ). added_at m d l (drop i p)) (drop_of_length-le w {i = i} (omega arith))
    ]

-- equal but for v at the place i
one : (n i : ℕ) (f g : ℕ → ℕ) (v : ℕ) → i < n → ((a : ℕ) → (a ≡ i → ⊥) → f a ≡ g a) → f i ≡ g i ⊕ v → sum_to n f ≡ sum_to n g ⊕ v
unfolding sum_to
one zero i f g v h e k = absurd (omega arith)
one (suc n) i f g v h e k = elim (dec_lt i n) [
  | yes a ↦ ap₂ ◌⊕◌ (one n i f g v a e k) (e n (λ q. omega arith)) ∙ behind (sum_to n g) v (g n)
  | no a ↦
      let q : n ≡ i = omega arith in
      ap₂ ◌⊕◌ (sum_cong n f g (λ b c. e b (λ z. omega arith))) (ap f q ∙ k ∙ ap (λ (a : ℕ). g a ⊕ v) (sym q)) ∙ sym (xor_assoc _ _ _)
]
  where
    behind : (x y z : ℕ) → x ⊕ y ⊕ z ≡ x ⊕ z ⊕ y
    behind x y z = xor_assoc x y z ∙ ap (◌⊕◌ x) (xor_comm y z) ∙ sym (xor_assoc x z y)

-- the sum of w_a·a^s over all elements a
module _ (m s : ℕ) where
  abbrev term : List ℕ → ℕ → ℕ
  term d a = mul m (get_or d a 0) (power m a s)

  set_sum : (d : List ℕ) (i x : ℕ) → i < 2 ^ m → i < length d → sum_to (2 ^ m) (term (set d i (get_or d i 0 ⊕ x))) ≡ sum_to (2 ^ m) (term d) ⊕ mul m x (power m i s)
  set_sum d i x h l =
      one (2 ^ m) i (term (set d i (get_or d i 0 ⊕ x))) (term d) (mul m x (power m i s)) h
      (λ a n. ap (λ (y : ℕ). mul m y (power m a s)) (get_or-set_other d i a (get_or d i 0 ⊕ x) 0 n))
      (ap (λ (y : ℕ). mul m y (power m i s)) (get_or-set_same d i (get_or d i 0 ⊕ x) 0 l) ∙ add-mul m (get_or d i 0) x (power m i s))

  added-sum : (d w p : List ℕ) → 2 ^ m ≤ length d → sum_to (2 ^ m) (term (added_at m d w p)) ≡ sum_to (2 ^ m) (term d) ⊕ weighted_sum m s w p
  unfolding added_at weighted_sum
  added-sum d [] p h = sym (xor-zero _)
  added-sum d (x ∷ w) [] h = sym (xor-zero _)
  added-sum d (x ∷ w) (a ∷ p) h =
      let i : ℕ = a % 2 ^ m in
      let b : i < 2 ^ m = mod-lt a (pow_pos m) in
      let l : length (set d i (get_or d i 0 ⊕ x)) ≡ length d = length-set d i (get_or d i 0 ⊕ x) in
      added-sum (set d i (get_or d i 0 ⊕ x)) w p (omega arith)
      ∙ ap (λ (y : ℕ). y ⊕ weighted_sum m s w p) (set_sum d i x b (omega arith) ∙ ap (λ (y : ℕ). sum_to (2 ^ m) (term d) ⊕ mul m x y) (power-low m a s))
      ∙ xor_assoc _ _ _

  zero-sum : (n : ℕ) → sum_to n (term (replicate 8192 0)) ≡ 0
  unfolding sum_to
  zero-sum zero = refl
  zero-sum (suc n) = ap₂ ◌⊕◌ (zero-sum n) (ap (λ (y : ℕ). mul m y (power m n s)) (zeros_at 8192 n) ∙ zero-mul m (power m n s)) ∙ zero_xor 0

-- the first k of all sums
module _ (m : ℕ) (u : Width m) (w p : List ℕ) where
  all_sums : (n : ℕ) → power_sums m n (scattered m w p) ≡ weighted_sums m n w p
  unfolding power_sums weighted_sums scattered
  all_sums n =
      let narrow : m < 14 = width_narrow m u in
      let e : length {A = ℕ} (replicate 8192 0) ≡ 8192 = length-replicate {A = ℕ} 8192 0 in
      let b : 2 ^ m ≤ 8192 = pow_mono (le_of_suc-le-suc narrow) in
      ap (λ f. map f (from 0 n)) (fun_ext (λ s.
      added-sum m s (replicate 8192 0) w p (omega arith) ∙ ap (λ (x : ℕ). x ⊕ weighted_sum m s w p) (zero-sum m s (2 ^ m)) ∙ zero_xor _))

  pub scattered_sums : (k : ℕ) → 8 ≤ m → k ≤ 256 → (d v : List ℕ) → d ≡ scattered m w p → v ≡ sums_all m d
      → take k v ≡ weighted_sums m k w p
  unfolding sums_all
  scattered_sums k h l d v ed ev =
      let e : min m 8 ≡ 8 = omega arith in
      ap (take k) (ev ∙ (rw u) ∙ ap₂ (λ (j : ℕ) (d : List ℕ). padded 256 (power_sums m (2 ^ j) d)) e ed ∙ ap (padded 256) (all_sums 256))
      ∙ take_sums m k 256 w p l
