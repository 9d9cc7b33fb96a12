-- A function at each place of two lists, as loops over places compute it. Assumes nothing.
use mathlib.Core.Path.{◌≡◌, refl, sym, ap, ◌∙◌}
use mathlib.Core.List.{List, [], ◌∷◌, ◌++◌}
use Prim.Native.Nat.{ℕ, zero, suc, ◌+◌, ◌≤◌, ◌<◌, suc-le-suc}
use native.Mathlib.Nat.{zero-add, suc-add, zero-lt-suc, le_of_suc-le-suc, not-suc-le-zero}
use lib.ListN.{length, get_or, take, drop, set, replicate, take-append-drop}
use lib.Seq.{take-nil, drop-nil}
use Rattle.bits.specs.Bits.{each_with}
use Rattle.bits.proofs.Lists.{cons_eq}

module _ (f : ℕ → ℕ → ℕ) where
  pub length-each_with : (d s : List ℕ) → length (each_with f d s) ≡ length d
  unfolding each_with
  length-each_with [] s = refl
  length-each_with (x ∷ d) [] = refl
  length-each_with (x ∷ d) (y ∷ s) = ap suc (length-each_with d s)

  pub each_with-nil : (d : List ℕ) → each_with f d [] ≡ d
  unfolding each_with
  each_with-nil [] = refl
  each_with-nil (x ∷ d) = refl

  -- one place more
  pub each_with-suc : (d s : List ℕ) (i : ℕ) → i < length s → i < length d
      → set (each_with f d (take i s)) i (f (get_or (each_with f d (take i s)) i 0) (get_or s i 0)) ≡ each_with f d (take (suc i) s)
  unfolding each_with
  each_with-suc d [] i h k = absurd (not-suc-le-zero h)
  each_with-suc [] (y ∷ s) i h k = absurd (not-suc-le-zero k)
  each_with-suc (x ∷ d) (y ∷ s) zero h k = ap (◌∷◌ (f x y)) (sym (each_with-nil d))
  each_with-suc (x ∷ d) (y ∷ s) (suc i) h k = ap (◌∷◌ (f x y)) (each_with-suc d s i (le_of_suc-le-suc h) (le_of_suc-le-suc k))

  -- what the second list has past the end of the first does not count
  pub each_with-take : (d s : List ℕ) (n : ℕ) → (n < length s → length d ≤ n) → each_with f d (take n s) ≡ each_with f d s
  unfolding each_with
  each_with-take [] s n h = refl
  each_with-take (x ∷ d) [] zero h = refl
  each_with-take (x ∷ d) [] (suc n) h = refl
  each_with-take (x ∷ d) (y ∷ s) zero h = absurd (not-suc-le-zero (h (zero-lt-suc (length s))))
  each_with-take (x ∷ d) (y ∷ s) (suc n) h = ap (◌∷◌ (f x y)) (each_with-take d s n (λ l. le_of_suc-le-suc (h (suc-le-suc l))))

  pub take-each_with : (n : ℕ) (d s : List ℕ) → take n (each_with f d s) ≡ each_with f (take n d) s
  unfolding each_with
  take-each_with zero d s = refl
  take-each_with (suc n) [] s = refl
  take-each_with (suc n) (x ∷ d) [] = refl
  take-each_with (suc n) (x ∷ d) (y ∷ s) = ap (◌∷◌ (f x y)) (take-each_with n d s)

  pub each_with-at : (d s : List ℕ) (j : ℕ) → j < length d → j < length s → get_or (each_with f d s) j 0 ≡ f (get_or d j 0) (get_or s j 0)
  unfolding each_with
  each_with-at [] s j h k = absurd (not-suc-le-zero h)
  each_with-at (x ∷ d) [] j h k = absurd (not-suc-le-zero k)
  each_with-at (x ∷ d) (y ∷ s) zero h k = refl
  each_with-at (x ∷ d) (y ∷ s) (suc j) h k = each_with-at d s j (le_of_suc-le-suc h) (le_of_suc-le-suc k)

  -- the places from `at` on, k of them, written back into the list
  each_with_front : (k : ℕ) (d s : List ℕ) → each_with f (take k d) (take k s) ++ drop k d ≡ each_with f d (take k s)
  unfolding each_with
  each_with_front zero d s = sym (each_with-nil d)
  each_with_front (suc k) [] s = refl
  each_with_front (suc k) (x ∷ d) [] = ap (◌∷◌ x) (take-append-drop k d)
  each_with_front (suc k) (x ∷ d) (y ∷ s) = ap (◌∷◌ (f x y)) (each_with_front k d s)

  pub each_with_block : (at k : ℕ) (d s : List ℕ) → at ≤ length s
      → take at (each_with f d (take at s))
      ++ (each_with f (take k (drop at (each_with f d (take at s)))) (take k (drop at s)) ++ drop k (drop at (each_with f d (take at s))))
      ≡ each_with f d (take (at + k) s)
  unfolding each_with
  each_with_block zero k d s h =
      ap (λ (e : List ℕ). each_with f (take k e) (take k s) ++ drop k e) (each_with-nil d) ∙ each_with_front k d s
      ∙ ap (λ (n : ℕ). each_with f d (take n s)) (sym (zero-add k))
  each_with_block (suc at) k d [] h = absurd (not-suc-le-zero h)
  each_with_block (suc at) k [] (y ∷ s) h =
      ap (λ (e : List ℕ). each_with f e (take k (drop at s)) ++ drop k []) (take-nil k) ∙ drop-nil k
  each_with_block (suc at) k (x ∷ d) (y ∷ s) h =
      ap (◌∷◌ (f x y)) (each_with_block at k d s (le_of_suc-le-suc h))
      ∙ ap (λ (n : ℕ). each_with f (x ∷ d) (take n (y ∷ s))) (sym (suc-add at k))

-- two functions, one after the other, with the same list
pub each_with_again : (g f : ℕ → ℕ → ℕ) (d s : List ℕ) → each_with f (each_with g d s) s ≡ each_with (λ x y. f (g x y) y) d s
unfolding each_with
each_with_again g f [] s = refl
each_with_again g f (x ∷ d) [] = refl
each_with_again g f (x ∷ d) (y ∷ s) = ap (◌∷◌ (f (g x y) y)) (each_with_again g f d s)

-- a function that keeps the list's number
pub each_with-keep : (f : ℕ → ℕ → ℕ) → ((x y : ℕ) → f x y ≡ x) → (d s : List ℕ) → each_with f d s ≡ d
unfolding each_with
each_with-keep f e [] s = refl
each_with-keep f e (x ∷ d) [] = refl
each_with-keep f e (x ∷ d) (y ∷ s) = cons_eq (e x y) (each_with-keep f e d s)

-- over a list of one number
pub each_with-replicate : (f : ℕ → ℕ → ℕ) (n v : ℕ) (s : List ℕ) → each_with f (replicate n v) s ≡ each_with (λ x y. f v y) (replicate n v) s
unfolding each_with
each_with-replicate f zero v s = refl
each_with-replicate f (suc n) v [] = refl
each_with-replicate f (suc n) v (y ∷ s) = ap (◌∷◌ (f v y)) (each_with-replicate f n v s)
