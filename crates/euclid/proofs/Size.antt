-- The number of coefficients up to the last that is not 0. Assumes nothing.
use mathlib.Core.Path.{◌≡◌, refl, sym, ap, ap₂, ◌∙◌, subst}
use mathlib.Core.Bool.{Bool, true, false, cond, ◌&&◌}
use mathlib.Core.List.{List, [], ◌∷◌, ◌++◌}
use Prim.Native.Nat.{ℕ, zero, suc, ◌-◌, ◌≤◌, ◌<◌}
use native.Mathlib.Omega.{arith}
use borrow.Author.Tests.{eqb-true, eqb-false}
use lib.Dec.{eqb}
use lib.ListN.{length, get_or, take}
use lib.Seq.{take-suc, take-length, length-take-le}
use Rattle.euclid.specs.Euclid.{size, started}

-- a coefficient in front: it is 0 and all behind it are, or not
size-cons : (x : ℕ) (p : List ℕ) (P : ℕ → Type 0) → (x ≡ 0 → size p ≡ 0 → P 0) → ((x ≡ 0 → size p ≡ 0 → ⊥) → P (suc (size p))) → P (size (x ∷ p))
unfolding size
size-cons x p P none some = go (eqb x 0) (eqb (size p) 0) refl refl
  where
    at : {y z : Bool} → eqb x 0 ≡ y → eqb (size p) 0 ≡ z → P (cond (y && z) 0 (suc (size p))) → P (cond (eqb x 0 && eqb (size p) 0) 0 (suc (size p)))
    at e f = subst (λ (b : Bool). P (cond b 0 (suc (size p)))) (sym (ap₂ ◌&&◌ e f))

    go : (y z : Bool) → eqb x 0 ≡ y → eqb (size p) 0 ≡ z → P (cond (eqb x 0 && eqb (size p) 0) 0 (suc (size p)))
    go true true e f = at e f (none (eqb-true x 0 e) (eqb-true (size p) 0 f))
    go true false e f = at e f (some (λ s t. eqb-false (size p) 0 f t))
    go false z e f = at e f (some (λ s t. eqb-false x 0 e s))

pub size-le : (p : List ℕ) → size p ≤ length p
unfolding size
size-le [] = omega arith
size-le (x ∷ p) = let h = size-le p in size-cons x p (λ n. n ≤ suc (length p)) (λ e f. omega arith) (λ n. omega arith)

-- the coefficients from there on are 0, and the one before is not
pub size_past : (p : List ℕ) (k : ℕ) → size p ≤ k → get_or p k 0 ≡ 0
size_past [] k h = refl
size_past (x ∷ p) zero h = size-cons x p (λ n. n ≤ 0 → x ≡ 0) (λ e f l. e) (λ n l. absurd (omega arith)) h
size_past (x ∷ p) (suc k) h =
    size-cons x p (λ n. n ≤ suc k → get_or p k 0 ≡ 0) (λ e f l. size_past p k (omega arith)) (λ n l. size_past p k (omega arith)) h

pub size_top : (p : List ℕ) → 0 < size p → get_or p (size p - 1) 0 ≡ 0 → ⊥
unfolding size
size_top [] h z = absurd (omega arith)
size_top (x ∷ p) h z =
    size-cons x p (λ n. 0 < n → get_or (x ∷ p) (n - 1) 0 ≡ 0 → ⊥) (λ e f l. absurd (omega arith))
    (λ n l. let e : suc (size p) - 1 ≡ size p = omega arith in subst (λ (k : ℕ). get_or (x ∷ p) k 0 ≡ 0 → ⊥) (sym e) (go n (size_top p) (size p) refl)) h z
  where
    go : (x ≡ 0 → size p ≡ 0 → ⊥) → (0 < size p → get_or p (size p - 1) 0 ≡ 0 → ⊥) → (k : ℕ) → size p ≡ k → get_or (x ∷ p) k 0 ≡ 0 → ⊥
    go n ih zero f z = n z f
    go n ih (suc k) f z = let e : size p - 1 ≡ k = omega arith in ih (omega arith) (ap (λ (i : ℕ). get_or p i 0) e ∙ z)

-- a coefficient behind
size-last : (l : List ℕ) (x : ℕ) → (x ≡ 0 → ⊥) → size (l ++ x ∷ []) ≡ suc (length l)
unfolding size
size-last [] x n = size-cons x [] (λ k. k ≡ 1) (λ e f. absurd (n e)) (λ h. refl)
size-last (y ∷ l) x n =
    let h = size-last l x n in
    size-cons y (l ++ x ∷ []) (λ k. k ≡ suc (suc (length l))) (λ e f. omega arith) (λ s. ap suc h)

size-zero : (l : List ℕ) → size (l ++ 0 ∷ []) ≡ size l
unfolding size
size-zero [] = refl
size-zero (y ∷ l) = ap (λ (n : ℕ). cond (eqb y 0 && eqb n 0) 0 (suc n)) (size-zero l)

-- the loop from the top: the first n coefficients decide
module _ (p : List ℕ) where
  pub size_all : size (take (length p) p) ≡ size p
  size_all = ap size (take-length p)

  pub size_none : (n : ℕ) → n ≤ 0 → 0 ≡ size (take n p)
  unfolding size
  size_none zero h = refl
  size_none (suc n) h = absurd (omega arith)

  module _ (n : ℕ) (h : 0 < n) (l : n ≤ length p) where
    split : take n p ≡ take (n - 1) p ++ get_or p (n - 1) 0 ∷ []
    split =
        let e : n ≡ suc (n - 1) = omega arith in
        ap (λ (k : ℕ). take k p) e ∙ take-suc p (n - 1) 0 (omega arith)

    pub size_stop : (get_or p (n - 1) 0 ≡ 0 → ⊥) → n ≡ size (take n p)
    size_stop z =
        let e : n ≡ suc (n - 1) = omega arith in
        sym (ap size split ∙ size-last (take (n - 1) p) (get_or p (n - 1) 0) z ∙ ap suc (length-take-le (n - 1) p (omega arith)) ∙ sym e)

    pub size-next : get_or p (n - 1) 0 ≡ 0 → size (take (n - 1) p) ≡ size (take n p)
    size-next z = sym (ap size split ∙ ap (λ (x : ℕ). size (take (n - 1) p ++ x ∷ [])) z ∙ size-zero (take (n - 1) p))

pub started_fit : (a b : List ℕ) → length a ≤ 129 → length b ≤ 129 → ((started a b).da ≤ 129) × ((started a b).db ≤ 129)
unfolding started
started_fit a b h k = (omega (arith, size-le a), omega (arith, size-le b))
