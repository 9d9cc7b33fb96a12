-- The sums over a block of points, by products at each point. Assumes nothing.
use mathlib.Core.Path.{◌≡◌, refl, sym, ap, ap₂, ◌∙◌, fun_ext}
use mathlib.Core.List.{List, [], ◌∷◌, ◌++◌, map, map-append}
use Prim.Native.Nat.{ℕ, zero, suc, ◌+◌, ◌-◌, ◌/◌, ◌%◌, ◌^◌, ◌≤◌, ◌<◌}
use native.Mathlib.Nat.{zero-mod, le_of_suc-le-suc, not-suc-le-zero}
use native.Mathlib.Numerals.{add-one}
use native.Mathlib.Omega.{arith}
use lib.ListN.{length, get_or, take, drop, set, replicate, length-map, drop_of_length-le}
use lib.Seq.{ext_get_or, drop-cons, take_all}
use Rattle.bits.specs.Xor.{◌⊕◌}
use Rattle.bits.specs.Bits.{each_with, padded, xor_row}
use Rattle.bits.proofs.Xor.{xor_assoc, zero_xor, xor-zero}
use Rattle.bits.proofs.Lists.{cons_eq}
use Rattle.bits.proofs.Each.{length-each_with, each_with_again}
use Rattle.bits.proofs.Rows.{xor_row-nil, xor_row-suc}
use Rattle.bits.proofs.Padded.{length-padded, padded-at}
use Rattle.field.specs.Field.{mul, power}
use Rattle.field.specs.PointTable.{multiples_of, combine_each}
use Rattle.field.proofs.Table.{Width}
use Rattle.field.proofs.Laws.{mul_comm, mul_assoc, one_mul-low, power_zero, power-suc}
use Rattle.field.proofs.Places.{horner_each_width}
use Rattle.field.proofs.PointTable.{length_multiples, multiples_at, combine_each_horner}
use Rattle.poly.specs.Polynomials.{sum}
use Rattle.poly.proofs.Steps.{sum-nil, sum-cons}
use Rattle.point_sums.specs.Weighted.{weighted_sum, weighted_sums}
use Rattle.point_sums.proofs.Weighted.{length_sums, sums_at, sum-padded}

-- d and the numbers from i on
module _ (p : List ℕ) where
  unfoldable pub rest : ℕ → ℕ → ℕ
  rest d i = d ⊕ sum (drop i p)

  pub rest_start : rest 0 0 ≡ sum p
  unfolding rest
  rest_start = zero_xor (sum p)

  pub rest_next : (d i : ℕ) → i < length p → rest (d ⊕ get_or p i 0) (i + 1) ≡ rest d i
  unfolding rest
  rest_next d i h = rw (add-one, drop-cons p i 0, sum-cons) (xor_assoc d _ _)

  pub rest_end : (d i : ℕ) → length p ≤ i → rest d i ≡ d
  unfolding rest
  rest_end d i h = rw (drop_of_length-le p h, sum-nil) (xor-zero d)

-- the terms of the sum s
abbrev terms_of : ℕ → ℕ → List ℕ → List ℕ → List ℕ
terms_of m s w p = each_with (λ x a. mul m x (power m a s)) w p

terms_sum : (m s : ℕ) (w p : List ℕ) → length w ≤ length p → sum (terms_of m s w p) ≡ weighted_sum m s w p
unfolding each_with sum weighted_sum
terms_sum m s [] p h = refl
terms_sum m s (x ∷ w) [] h = absurd (not-suc-le-zero h)
terms_sum m s (x ∷ w) (a ∷ p) h = ap (◌⊕◌ (mul m x (power m a s))) (terms_sum m s w p (le_of_suc-le-suc h))

-- a^0 is 1
first : (m : ℕ) → Width m → (w p : List ℕ) → length w ≤ length p → map (λ x. x % 2 ^ m) w ≡ terms_of m 0 w p
unfolding each_with
first m v [] p h = refl
first m v (x ∷ w) [] h = absurd (not-suc-le-zero h)
first m v (x ∷ w) (a ∷ p) h =
    cons_eq (sym (ap (mul m x) (power_zero m a) ∙ mul_comm m x 1 ∙ one_mul-low m v x)) (first m v w p (le_of_suc-le-suc h))

-- one power more
next : (m s x a : ℕ) → mul m (mul m x (power m a s)) a ⊕ 0 ≡ mul m x (power m a (s + 1))
next m s x a = xor-zero _ ∙ mul_assoc m x (power m a s) a ∙ ap (mul m x) (sym (power-suc m a s) ∙ ap (power m a) (sym (add-one s)))

-- zeros behind weights and points
zeros : (m i : ℕ) → map (λ x. x % 2 ^ m) (replicate i 0) ≡ replicate i 0
zeros m zero = refl
zeros m (suc i) = cons_eq (zero-mod (2 ^ m)) (zeros m i)

multiples_padded : (m : ℕ) (p : List ℕ) → multiples_of m p ≡ multiples_of m (padded 64 p)
multiples_padded m p =
    ext_get_or 0 (multiples_of m p) (multiples_of m (padded 64 p)) (length_multiples m p ∙ sym (length_multiples m (padded 64 p)))
    (λ q b.
    let c : q < 832 = rw (length_multiples m p) at b in
    multiples_at m p q c ∙ ap (λ (x : ℕ). mul m x (2 ^ (q / 64))) (sym (padded-at 64 p (q % 64))) ∙ sym (multiples_at m (padded 64 p) q c))

-- the terms of at most 64 points, with zeros behind
module _ (m : ℕ) (w p : List ℕ) where
  unfoldable pub terms : ℕ → List ℕ
  terms s = terms_of m s (padded 64 w) (padded 64 p)

  module _ (e : length w ≡ length p) (h : length p ≤ 64) where
    length_weights : length (padded 64 w) ≡ 64
    length_weights = length-padded 64 w (omega arith)

    length_points : length (padded 64 p) ≡ 64
    length_points = length-padded 64 p h

    pub terms_total : (s : ℕ) → sum (terms s) ≡ weighted_sum m s w p
    unfolding terms
    terms_total s = terms_sum m s (padded 64 w) (padded 64 p) (omega (arith, length_weights, length_points)) ∙ sum-padded m s 64 w p e

    module _ (v : Width m) where
      pub terms_start : padded 64 (map (λ x. x % 2 ^ m) w) ≡ terms 0
      unfolding terms padded
      terms_start =
          let low : ℕ → ℕ = λ x. x % 2 ^ m in
          ap (λ (n : ℕ). map low w ++ replicate (64 - n) 0) (length-map w low)
          ∙ sym (map-append low w (replicate (64 - length w) 0) ∙ ap (◌++◌ (map low w)) (zeros m (64 - length w)))
          ∙ first m v (padded 64 w) (padded 64 p) (omega (arith, length_weights, length_points))

      -- by the multiples t of the points
      pub terms_next : (t : List ℕ) → t ≡ multiples_of m p → (s : ℕ) → combine_each t 0 (terms s) ≡ terms (s + 1)
      unfolding terms
      terms_next t et s =
          let n : length (terms s) ≡ 64 = length-each_with (λ x a. mul m x (power m a s)) (padded 64 w) (padded 64 p) ∙ length_weights in
          ap (λ (t : List ℕ). combine_each t 0 (terms s)) (et ∙ multiples_padded m p)
          ∙ combine_each_horner m v (padded 64 p) 0 (terms s) (omega (arith, length_points)) (omega arith)
          ∙ horner_each_width m 0 (terms s) (padded 64 p) v
          ∙ each_with_again (λ x a. mul m x (power m a s)) (λ x a. mul m x a ⊕ 0) (padded 64 w) (padded 64 p)
          ∙ ap (λ f. each_with f (padded 64 w) (padded 64 p)) (fun_ext (λ x. fun_ext (λ a. next m s x a)))

  -- the sums added to d: none yet; one more; all
  module _ (k : ℕ) (d : List ℕ) where
    unfoldable pub added_to : ℕ → List ℕ
    added_to s = xor_row d (take s (weighted_sums m k w p))

    pub added-start : d ≡ added_to 0
    unfolding added_to
    added-start = sym (xor_row-nil d)

    pub added_next : (s : ℕ) → s < k → k ≤ length d → (l : List ℕ) → l ≡ added_to s → (v : ℕ) → v ≡ weighted_sum m s w p
        → set l s (get_or l s 0 ⊕ v) ≡ added_to (s + 1)
    unfolding added_to
    added_next s h n l el v ev =
        ap₂ (λ (l : List ℕ) (v : ℕ). set l s (get_or l s 0 ⊕ v)) el (ev ∙ sym (sums_at m k w p s h))
        ∙ xor_row-suc d (weighted_sums m k w p) s (omega (arith, length_sums m k w p)) (omega arith)
        ∙ ap added_to (sym (add-one s))

    pub added_all : (s : ℕ) → k ≤ s → added_to s ≡ xor_row d (weighted_sums m k w p)
    unfolding added_to
    added_all s h = ap (xor_row d) (take_all s (weighted_sums m k w p) (omega (arith, length_sums m k w p)))
