-- One step of Horner's rule at each place, and a function of the number at each place. Assumes nothing.
use mathlib.Core.Path.{◌≡◌, refl, sym, ap, ◌∙◌, fun_ext}
use mathlib.Core.Bool.{false}
use mathlib.Core.List.{List, [], ◌∷◌, map}
use Prim.Native.Nat.{ℕ, zero, suc, ◌≤◌, ◌<◌}
use native.Mathlib.Omega.{arith}
use native.Mathlib.Nat.{le_refl, le_of_suc-le-suc, not-suc-le-zero}
use lib.ListN.{length, get_or, take, replicate, length-map, length-replicate}
use Rattle.bits.specs.Xor.{◌⊕◌}
use Rattle.bits.specs.Bits.{each_with}
use Rattle.bits.proofs.Each.{length-each_with, each_with-nil, each_with-at, each_with-take}
use Rattle.bits.proofs.Lists.{cons_eq}
use Rattle.bits.proofs.Xor.{xor-zero}
use Rattle.field.specs.Field.{is_width, mul}
use Rattle.field.specs.Poly.{horner_each, of_each}
use Rattle.field.proofs.Table.{Width, by_width}

module _ (m c : ℕ) (r s : List ℕ) where
  pub horner_each_none : is_width m ≡ false → horner_each m c r s ≡ r
  unfolding horner_each
  horner_each_none n = rw n

  pub horner_each_width : Width m → horner_each m c r s ≡ each_with (λ x y. mul m x y ⊕ c) r s
  unfolding horner_each
  horner_each_width w = rw w

  pub length-horner_each : length (horner_each m c r s) ≡ length r
  length-horner_each = by_width m (λ w. rw (horner_each_width w) (length-each_with _ r s)) (λ n. rw (horner_each_none n))

  pub horner_each-at : Width m → (i : ℕ) → i < length r → i < length s → get_or (horner_each m c r s) i 0 ≡ mul m (get_or r i 0) (get_or s i 0) ⊕ c
  horner_each-at w i h k = rw (horner_each_width w) (each_with-at (λ x y. mul m x y ⊕ c) r s i h k)

-- a function h of a list's numbers, followed by f with the same numbers
module _ (h : ℕ → ℕ) where
  pub each_map : (f : ℕ → ℕ → ℕ) (s : List ℕ) → each_with f (map h s) s ≡ map (λ a. f (h a) a) s
  unfolding each_with
  each_map f [] = refl
  each_map f (a ∷ s) = ap (◌∷◌ (f (h a) a)) (each_map f s)

  -- at the list's places
  take_each : (n : ℕ) (s : List ℕ) → length s ≤ n → take (length s) (each_with (λ x a. h a) (replicate n 1) s) ≡ map h s
  unfolding each_with
  take_each n [] l = refl
  take_each zero (a ∷ s) l = absurd (not-suc-le-zero l)
  take_each (suc n) (a ∷ s) l = ap (◌∷◌ (h a)) (take_each n s (le_of_suc-le-suc l))

-- places of the second list, from i on, that change nothing
pub each_rest : (f : ℕ → ℕ → ℕ) (d s : List ℕ) (i : ℕ) → ((j : ℕ) → i ≤ j → f (get_or d j 0) (get_or s j 0) ≡ get_or d j 0)
    → each_with f d (take i s) ≡ each_with f d s
unfolding each_with
each_rest f [] s i h = refl
each_rest f (x ∷ d) [] zero h = refl
each_rest f (x ∷ d) [] (suc i) h = refl
each_rest f (x ∷ d) (y ∷ s) zero h =
    cons_eq (sym (h 0 (le_refl 0))) (sym (each_with-nil f d) ∙ each_rest f d s zero (λ j l. h (suc j) (omega arith)))
each_rest f (x ∷ d) (y ∷ s) (suc i) h = ap (◌∷◌ (f x y)) (each_rest f d s i (λ j l. h (suc j) (omega arith)))

-- squares, and products with a list that goes on
pub each_self : (f : ℕ → ℕ → ℕ) (s : List ℕ) → each_with f s s ≡ map (λ a. f a a) s
unfolding each_with
each_self f [] = refl
each_self f (a ∷ s) = ap (◌∷◌ (f a a)) (each_self f s)

-- with a list that goes on behind r
pub horner_start : (m c : ℕ) (r s : List ℕ) → take (length r) s ≡ r → horner_each m c r s ≡ horner_each m c r r
horner_start m c r s e =
    by_width m
    (λ w. horner_each_width m c r s w ∙ sym (each_with-take _ r s (length r) (λ h. le_refl (length r)))
    ∙ ap (each_with (λ x y. mul m x y ⊕ c) r) e ∙ sym (horner_each_width m c r r w))
    (λ n. horner_each_none m c r s n ∙ sym (horner_each_none m c r r n))

module _ (m : ℕ) (w : Width m) where
  pub horner_self : (s : List ℕ) → horner_each m 0 s s ≡ map (λ a. mul m a a) s
  horner_self s = horner_each_width m 0 s s w ∙ each_self (λ x y. mul m x y ⊕ 0) s ∙ ap (λ f. map f s) (fun_ext (λ a. xor-zero (mul m a a)))

  pub horner_list : (h : ℕ → ℕ) (s t : List ℕ) → take (length s) t ≡ s → horner_each m 0 (map h s) t ≡ map (λ a. mul m (h a) a) s
  horner_list h s t e =
      let n : length (map h s) ≡ length s = length-map s h in
      horner_each_width m 0 (map h s) t w
      ∙ sym (each_with-take (λ x y. mul m x y ⊕ 0) (map h s) t (length s) (λ k. omega arith))
      ∙ ap (each_with (λ x y. mul m x y ⊕ 0) (map h s)) e
      ∙ each_map h (λ x y. mul m x y ⊕ 0) s
      ∙ ap (λ f. map f s) (fun_ext (λ a. xor-zero (mul m (h a) a)))

module _ (m : ℕ) (h : ℕ → ℕ) (s : List ℕ) where
  pub of_each_none : is_width m ≡ false → of_each m h s ≡ replicate 8192 1
  unfolding of_each
  of_each_none n = rw n

  pub of_each_width : Width m → of_each m h s ≡ each_with (λ x a. h a) (replicate 8192 1) s
  unfolding of_each
  of_each_width w = rw w

  pub length-of_each : length (of_each m h s) ≡ 8192
  length-of_each =
      by_width m
      (λ w. ap length (of_each_width w) ∙ length-each_with (λ x a. h a) (replicate 8192 1) s ∙ length-replicate {A = ℕ} 8192 1)
      (λ n. ap length (of_each_none n) ∙ length-replicate {A = ℕ} 8192 1)

  pub take-of_each : Width m → length s ≤ 8192 → take (length s) (of_each m h s) ≡ map h s
  take-of_each w l = ap (take (length s)) (of_each_width w) ∙ take_each h 8192 s l
