-- A function at each place of a list, and the places numbered, one after another. Assumes nothing.
use mathlib.Core.Path.{◌≡◌, refl, sym, ap, ap₂, ◌∙◌}
use mathlib.Core.List.{List, [], ◌∷◌, ◌++◌, map, append_assoc, append-nil}
use Prim.Native.Nat.{ℕ, suc, ◌+◌, ◌≤◌, ◌<◌}
use native.Mathlib.Nat.{le_of_lt, zero-add}
use native.Mathlib.Numerals.{add-one}
use native.Mathlib.Omega.{arith}
use lib.ListN.{length, get_or, take, drop, set, length-map, drop_of_length-le}
use lib.Seq.{drop-cons, set_at, get_or_at, take_all, take-suc, length-take-le}
use Rattle.bits.specs.Bits.{from}
use Rattle.bits.proofs.Lists.{length_from, from-add, map-append}

module _ (f : ℕ → ℕ) (s : List ℕ) where
  -- f at the first i places
  unfoldable pub mapped_to : ℕ → List ℕ
  mapped_to i = map f (take i s) ++ drop i s

  pub mapped_start : s ≡ mapped_to 0
  unfolding mapped_to
  mapped_start = refl

  pub mapped_next : (i : ℕ) → i < length s → set (mapped_to i) i (f (get_or (mapped_to i) i 0)) ≡ mapped_to (i + 1)
  unfolding mapped_to
  mapped_next i h =
      let p : List ℕ = map f (take i s) in
      let x : ℕ = get_or s i 0 in
      let r : List ℕ = drop (suc i) s in
      let e : length p ≡ i = length-map (take i s) f ∙ length-take-le i s (le_of_lt h) in
      let d : drop i s ≡ x ∷ r = drop-cons s i 0 h in
      ap (λ (l : List ℕ). set (p ++ l) i (f (get_or (p ++ l) i 0))) d
      ∙ ap (λ (y : ℕ). set (p ++ (x ∷ r)) i (f y)) (get_or_at p x r 0 i e)
      ∙ set_at p x r (f x) i e
      ∙ sym (append_assoc p (f x ∷ []) r)
      ∙ ap (◌++ r) (sym (map-append f (take i s) (x ∷ [])) ∙ ap (map f) (sym (take-suc s i 0 h)))
      ∙ ap (λ (j : ℕ). map f (take j s) ++ drop j s) (sym (add-one i))

  pub mapped_all : (i : ℕ) → length s ≤ i → mapped_to i ≡ map f s
  unfolding mapped_to
  mapped_all i h = ap₂ (λ (l r : List ℕ). map f l ++ r) (take_all i s h) (drop_of_length-le s h) ∙ append-nil (map f s)

-- the first i places numbered
module _ (s : List ℕ) where
  pub numbered_start : s ≡ from 0 0 ++ drop 0 s
  unfolding from
  numbered_start = refl

  pub numbered_next : (i : ℕ) → i < length s → set (from 0 i ++ drop i s) i i ≡ from 0 (i + 1) ++ drop (i + 1) s
  unfolding from
  numbered_next i h =
      let e : length (from 0 i) ≡ i = length_from 0 i in
      ap (λ (l : List ℕ). set (from 0 i ++ l) i i) (drop-cons s i 0 h)
      ∙ set_at (from 0 i) (get_or s i 0) (drop (suc i) s) i i e
      ∙ sym (append_assoc (from 0 i) (i ∷ []) (drop (suc i) s))
      ∙ ap (◌++ drop (suc i) s) (ap (λ (j : ℕ). from 0 i ++ (j ∷ [])) (sym (zero-add i)) ∙ sym (from-add 0 i 1))
      ∙ ap (λ (j : ℕ). from 0 (i + 1) ++ drop j s) (sym (add-one i))

  pub numbered_all : (i : ℕ) → i ≤ length s → length s ≤ i → from 0 i ++ drop i s ≡ from 0 (length s)
  numbered_all i a b =
      let e : i ≡ length s = omega arith in
      ap (◌++◌ (from 0 i)) (drop_of_length-le s b) ∙ append-nil (from 0 i) ∙ ap (from 0) e
