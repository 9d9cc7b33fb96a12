-- The values of a monic polynomial at each of a list of points, by Horner's rule at all points. Assumes nothing.
use mathlib.Core.Path.{◌≡◌, refl, sym, ap, ◌∙◌, fun_ext}
use mathlib.Core.Bool.{Bool, true, false, cond}
use mathlib.Core.List.{List, [], ◌∷◌, ◌++◌, map}
use Prim.Native.Nat.{ℕ, zero, suc, ◌+◌, ◌-◌, ◌≤◌, ◌<◌}
use native.Mathlib.Nat.{le_refl, le_of_suc-le-suc, not-suc-le-zero}
use native.Mathlib.Omega.{arith}
use lib.ListN.{length, get_or, take, drop, replicate, drop_of_length-le}
use lib.Seq.{drop-cons}
use borrow.Rule.Slice.PartMut.{mid_of, put_mid}
use Rattle.bits.specs.Xor.{◌⊕◌}
use Rattle.bits.specs.Bits.{each_with}
use Rattle.bits.proofs.Each.{length-each_with, each_with-nil, each_with-take, each_with_block, each_with_again, each_with-keep, each_with-replicate}
use Rattle.bits.proofs.Xor.{xor_comm, xor-zero}
use Rattle.field.specs.Field.{is_width, mul}
use Rattle.field.specs.Poly.{value, horner_each}
use Rattle.field.proofs.Table.{Width}
use Rattle.field.proofs.Laws.{mul_comm, mul-zero}
use Rattle.field.proofs.Arrays.{value-nil, value-cons}
use Rattle.field.proofs.Places.{horner_each_width, of_each_none, of_each_width, length-of_each, take-of_each}
use Rattle.field.specs.PointTable.{multiples_of, combine_each}
use Rattle.field.proofs.PointTable.{combine_each_horner}
use Rattle.poly.specs.Polynomials.{monic, value_from, each_value, values_at}

module _ (m : ℕ) where
  pub values_width : Width m → (g s : List ℕ) → values_at m g s ≡ each_with (λ x a. value m (monic g) a) (replicate 8192 1) s
  unfolding values_at
  values_width w g s = of_each_width m (value m (monic g)) s w

  pub length_values : (g s : List ℕ) → length (values_at m g s) ≡ 8192
  unfolding values_at
  length_values g s = length-of_each m (value m (monic g)) s

  -- at the points
  pub take_values : Width m → (g s : List ℕ) → length s ≤ 8192 → take (length s) (values_at m g s) ≡ map (value m (monic g)) s
  unfolding values_at
  take_values w g s h = take-of_each m (value m (monic g)) s w h

  pub values_none : is_width m ≡ false → (g s : List ℕ) → replicate 8192 1 ≡ values_at m g s
  unfolding values_at
  values_none n g s = sym (of_each_none m (value m (monic g)) s n)

-- from leading coefficients r: none of g's coefficients yet; one more
module _ (m : ℕ) (g r a : List ℕ) where
  unfoldable pub values_from : ℕ → List ℕ
  values_from k = each_with (value_from m (drop k g)) r a

  pub length_values_from : (k : ℕ) → length (values_from k) ≡ length r
  unfolding values_from
  length_values_from k = length-each_with (value_from m (drop k g)) r a

  -- one coefficient
  value_one : (x y : ℕ) → value m (x ∷ []) y ≡ x
  value_one x y = value-cons m x [] y ∙ ap (λ (v : ℕ). x ⊕ mul m y v) (value-nil m y) ∙ ap (◌⊕◌ x) (mul-zero m y) ∙ xor-zero x

  pub from_start : r ≡ values_from (length g)
  unfolding values_from value_from
  from_start =
      sym (ap (λ (l : List ℕ). each_with (value_from m l) r a) (drop_of_length-le g (le_refl (length g)))
      ∙ each_with-keep (value_from m []) (λ x y. value_one x y) r a)

  from_cons : Width m → (c : ℕ) (l : List ℕ) → horner_each m c (each_with (value_from m l) r a) a ≡ each_with (value_from m (c ∷ l)) r a
  unfolding value_from
  from_cons w c l =
      horner_each_width m c (each_with (value_from m l) r a) a w
      ∙ each_with_again (value_from m l) (λ x y. mul m x y ⊕ c) r a
      ∙ ap (λ (f : ℕ → ℕ → ℕ). each_with f r a) (fun_ext λ x. fun_ext λ y.
      ap (λ (v : ℕ). v ⊕ c) (mul_comm m (value_from m l x y) y) ∙ xor_comm (mul m y (value_from m l x y)) c
      ∙ sym (value-cons m c (l ++ (x ∷ [])) y))

  pub from_next : Width m → (k : ℕ) → 0 < k → k ≤ length g → horner_each m (get_or g (k - 1) 0) (values_from k) a ≡ values_from (k - 1)
  unfolding values_from
  from_next w k p h =
      let e : k ≡ suc (k - 1) = omega arith in
      from_cons w (get_or g (k - 1) 0) (drop k g)
      ∙ ap (λ (l : List ℕ). each_with (value_from m l) r a)
      (ap (λ (i : ℕ). get_or g (k - 1) 0 ∷ drop i g) e ∙ sym (drop-cons g (k - 1) 0 (omega arith)))

  -- one step by the multiples t of the points
  pub from_step : Width m → (t : List ℕ) → t ≡ multiples_of m a → length r ≡ length a → length a ≤ 64 → (k : ℕ) → 0 < k → k ≤ length g
      → combine_each t (get_or g (k - 1) 0) (values_from k) ≡ values_from (k - 1)
  from_step w t e l n k p h =
      let c : ℕ = get_or g (k - 1) 0 in
      ap (λ (u : List ℕ). combine_each u c (values_from k)) e
      ∙ combine_each_horner m w a c (values_from k) (omega (arith, length_values_from k)) (omega (arith, length_values_from k))
      ∙ from_next w k p h

-- block after block: the first `at` places
module _ (m : ℕ) (g d s : List ℕ) where
  unfoldable pub values_to : ℕ → List ℕ
  values_to at = each_with (value_from m g) d (take at s)

  pub length_values_to : (at : ℕ) → length (values_to at) ≡ length d
  unfolding values_to
  length_values_to at = length-each_with (value_from m g) d (take at s)

  pub to_start : d ≡ values_to 0
  unfolding values_to
  to_start = sym (each_with-nil (value_from m g) d)

  pub to_next : (at e : ℕ) (r y : List ℕ) → at ≤ e → e ≤ length s → r ≡ values_to at
      → y ≡ each_with (value_from m g) (mid_of at (e - at) r) (mid_of at (e - at) s) → put_mid at (e - at) r y ≡ values_to e
  unfolding values_to
  to_next at e r y h l er ey =
      let k : at + (e - at) ≡ e = omega arith in
      let f : ℕ → ℕ → ℕ = value_from m g in
      ap (put_mid at (e - at) r) ey
      ∙ ap (λ (r : List ℕ). put_mid at (e - at) r (each_with f (mid_of at (e - at) r) (mid_of at (e - at) s))) er
      ∙ each_with_block f at (e - at) d s (omega arith)
      ∙ ap (λ (n : ℕ). each_with f d (take n s)) k

  pub to_all : Width m → (at : ℕ) → (at < length s → length d ≤ at) → values_to at ≡ each_value m g d s
  unfolding values_to each_value
  to_all w at h = each_with-take (value_from m g) d s at h ∙ sym (ap (λ (b : Bool). cond b (each_with (value_from m g) d s) d) w)

  pub to_none : is_width m ≡ false → d ≡ each_value m g d s
  unfolding each_value
  to_none e = sym (ap (λ (b : Bool). cond b (each_with (value_from m g) d s) d) e)

-- from leading coefficients 1
pub each_values : (m : ℕ) (g s : List ℕ) → each_value m g (replicate 8192 1) s ≡ values_at m g s
unfolding each_value value_from monic
each_values m g s = go (is_width m) refl
  where
    go : (b : Bool) → is_width m ≡ b → cond b (each_with (value_from m g) (replicate 8192 1) s) (replicate 8192 1) ≡ values_at m g s
    go true w = each_with-replicate (value_from m g) 8192 1 s ∙ sym (values_width m w g s)
    go false e = values_none m e g s

-- at the points, at most k of them
take-ones : (f : ℕ → ℕ → ℕ) (k : ℕ) (s : List ℕ) → length s ≤ k → take (length s) (each_with f (replicate k 1) s) ≡ map (f 1) s
unfolding each_with
take-ones f k [] h = refl
take-ones f zero (a ∷ s) h = absurd (not-suc-le-zero h)
take-ones f (suc k) (a ∷ s) h = ap (◌∷◌ (f 1 a)) (take-ones f k s (le_of_suc-le-suc h))

pub take_each : (m : ℕ) → Width m → (g s : List ℕ) (k : ℕ) → length s ≤ k → take (length s) (each_value m g (replicate k 1) s) ≡ map (value m (monic g)) s
unfolding each_value value_from monic
take_each m w g s k h =
    ap (λ (b : Bool). take (length s) (cond b (each_with (value_from m g) (replicate k 1) s) (replicate k 1))) w ∙ take-ones (value_from m g) k s h
