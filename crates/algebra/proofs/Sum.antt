-- Finite sums, sum n f = f 0 + ... + f (n - 1), and the product of series as such a sum. Assumes nothing.
use mathlib.Core.Path.{◌≡◌, refl, sym, ◌∙◌, ap}
use Prim.Native.Nat.{ℕ, zero, suc, ◌+◌, ◌-◌, ◌≤◌, ◌<◌}
use native.Mathlib.Nat.{add-zero as nat-add-zero, add-suc as nat-add-suc, suc-sub-suc, sub-zero}
use native.Mathlib.Omega.{arith}
use Rattle.algebra.proofs.Ring.{Ring, ring, zero-mul}
use Rattle.algebra.proofs.Series as S
use Rattle.algebra.proofs.Series.{Series, operations, mul-zero-at, mul-suc-at}
use Rattle.algebra.proofs.Poly.{Below}

module _ {F : Type 0} {𝟘 𝟙 : F} {◌⊕◌ ◌⊗◌ : F → F → F} (L : Ring 𝟘 𝟙 ◌⊕◌ ◌⊗◌) where
  open operations L use {◌⊠◌, tail}

  infixl 65 ◌⊕◌
  infixl 70 ◌⊗◌
  infixl 70 ◌⊠◌
  -- by the last term, as a loop adds
  unfoldable pub sum : ℕ → (ℕ → F) → F
  sum zero f = 𝟘
  sum (suc n) f = sum n f ⊕ f n

  pub sum-zero : (f : ℕ → F) → sum 0 f ≡ 𝟘
  unfolding sum
  sum-zero f = refl

  pub sum-suc : (n : ℕ) (f : ℕ → F) → sum (suc n) f ≡ sum n f ⊕ f n
  unfolding sum
  sum-suc n f = refl

  pub sum_cong : (n : ℕ) (f g : ℕ → F) → ((i : ℕ) → i < n → f i ≡ g i) → sum n f ≡ sum n g
  sum_cong zero f g h = simp sum-zero
  sum_cong (suc n) f g h = rw (sum-suc n f, sum-suc n g, sum_cong n f g (λ i b. h i (omega arith)), h n (omega arith))

  pub sum_none : (n : ℕ) (f : ℕ → F) → ((i : ℕ) → i < n → f i ≡ 𝟘) → sum n f ≡ 𝟘
  sum_none zero f h = sum-zero f
  sum_none (suc n) f h = rw (sum-suc n f, sum_none n f (λ i b. h i (omega arith)), h n (omega arith)) (L.add-zero 𝟘)

  pub sum-add : (n : ℕ) (f g : ℕ → F) → sum n (λ i. f i ⊕ g i) ≡ sum n f ⊕ sum n g
  sum-add zero f g = simp (sum-zero, ring, L)
  sum-add (suc n) f g = simp (sum-suc, sum-add n f g, ring, L)

  pub sum-mul : (n : ℕ) (a : F) (f : ℕ → F) → sum n (λ i. a ⊗ f i) ≡ a ⊗ sum n f
  sum-mul zero a f = simp (sum-zero, ring, L)
  sum-mul (suc n) a f = simp (sum-suc, sum-mul n a f, ring, L)

  pub sum-split : (m n : ℕ) (f : ℕ → F) → sum (m + n) f ≡ sum m f ⊕ sum n (λ i. f (m + i))
  sum-split m zero f = simp (nat-add-zero, sum-zero, ring, L)
  sum-split m (suc n) f = simp (nat-add-suc, sum-suc, sum-split m n f, ring, L)

  pub sum_head : (n : ℕ) (f : ℕ → F) → sum (suc n) f ≡ f 0 ⊕ sum n (λ i. f (suc i))
  sum_head zero f = simp (sum-suc 0 f, sum-zero, ring, L)
  sum_head (suc n) f = simp (sum-suc (suc n) f, sum_head n f, sum-suc n (λ i. f (suc i)), ring, L)

  pub sum_swap : (m n : ℕ) (f : ℕ → ℕ → F) → sum m (λ i. sum n (λ j. f i j)) ≡ sum n (λ j. sum m (λ i. f i j))
  sum_swap zero n f = sum-zero _ ∙ sym (sum_none n (λ j. sum 0 (λ i. f i j)) (λ j b. sum-zero _))
  sum_swap (suc m) n f = simp (sum-suc, sum-add n (λ j. sum m (λ i. f i j)) (f m), sum_swap m n f)

  pub sum_reverse : (n : ℕ) (f : ℕ → F) → sum n f ≡ sum n (λ i. f (n - suc i))
  sum_reverse zero f = simp sum-zero
  sum_reverse (suc n) f = simp (suc-sub-suc, sum-suc n f, sum_reverse n f, sum_head n (λ i. f (n - i)), sub-zero, ring, L)

  pub mul-sum : (p q : Series F) (n : ℕ) → (p ⊠ q) n ≡ sum (suc n) (λ i. p i ⊗ q (n - i))
  unfolding S.tail
  mul-sum p q zero = rw (mul-zero-at L p q, sum-suc 0 (λ i. p i ⊗ q (0 - i)), sum-zero (λ i. p i ⊗ q (0 - i))) (simp (ring, L))
  mul-sum p q (suc n) =
      mul-suc-at L p q n ∙ ap (λ x. p 0 ⊗ q (suc n) ⊕ x) (mul-sum (tail p) q n)
      ∙ sym (sum_head (suc n) (λ i. p i ⊗ q (suc n - i)) ∙ simp (suc-sub-suc, sub-zero))

  -- what a program adds up: the terms up to the degree
  pub mul_short : (d : ℕ) (p q : Series F) (n : ℕ) → Below L d p → d ≤ suc n → (p ⊠ q) n ≡ sum d (λ i. p i ⊗ q (n - i))
  mul_short d p q n b h =
      let e : suc n ≡ d + (suc n - d) = omega arith in
      mul-sum p q n ∙ ap (λ m. sum m (λ i. p i ⊗ q (n - i))) e ∙ sum-split d (suc n - d) (λ i. p i ⊗ q (n - i))
      ∙ ap (λ x. sum d (λ i. p i ⊗ q (n - i)) ⊕ x)
      (sum_none (suc n - d) (λ i. p (d + i) ⊗ q (n - (d + i))) (λ i c. rw (b (d + i) (omega arith)) (zero-mul L _)))
      ∙ L.add-zero _
