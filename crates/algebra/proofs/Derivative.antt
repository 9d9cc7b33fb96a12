-- The derivative of series. In characteristic 2 the second derivative is 0. Assumes nothing.
use mathlib.Core.Path.{◌≡◌, refl, sym, ◌∙◌, ap, ap₂, fun_ext}
use Prim.Native.Nat.{ℕ, zero, suc}
use Rattle.algebra.proofs.Ring.{Ring, ring}
use Rattle.algebra.proofs.Series as S
use Rattle.algebra.proofs.Series.{Series, operations}

module _ {F : Type 0} {𝟘 𝟙 : F} {◌⊕◌ ◌⊗◌ : F → F → F} (L : Ring 𝟘 𝟙 ◌⊕◌ ◌⊗◌) where
  open operations L use {◌⊞◌, ◌⊠◌, O, C, X, tail}

  infixl 65 ◌⊕◌
  infixl 70 ◌⊗◌
  infixl 65 ◌⊞◌
  infixl 70 ◌⊠◌
  -- the derivative
  unfoldable pub D : Series F → Series F
  D p zero = p 1
  D p (suc n) = p (suc (suc n)) ⊕ D (λ i. p (suc i)) n

  D-add-at : (p q : Series F) (n : ℕ) → D (p ⊞ q) n ≡ D p n ⊕ D q n
  unfolding S.◌⊞◌ D S.tail
  D-add-at p q zero = refl
  D-add-at p q (suc n) = ap (λ x. (p (suc (suc n)) ⊕ q (suc (suc n))) ⊕ x) (D-add-at (tail p) (tail q) n) ∙ simp (ring, L)

  D-scale-at : (c : F) (p : Series F) (n : ℕ) → D (S.scale L c p) n ≡ c ⊗ D p n
  unfolding S.scale D S.tail
  D-scale-at c p zero = refl
  D-scale-at c p (suc n) = ap (λ x. c ⊗ p (suc (suc n)) ⊕ x) (D-scale-at c (tail p) n) ∙ simp (ring, L)

  leibniz_shape : (a b c d m e k : F) → (a ⊗ b ⊕ (c ⊕ m)) ⊕ (a ⊗ d ⊕ (e ⊕ k)) ≡ (c ⊕ (m ⊕ e)) ⊕ (a ⊗ (b ⊕ d) ⊕ k)
  leibniz_shape a b c d m e k = simp (ring, L)

  D-mul-at : (p q : Series F) (n : ℕ) → D (p ⊠ q) n ≡ (D p ⊠ q) n ⊕ (p ⊠ D q) n
  unfolding S.scale D S.tail S.◌⊠◌ S.◌⊞◌
  D-mul-at p q zero = L.add_comm _ _
  D-mul-at p q (suc n) =
      ap (λ x. (p ⊠ q) (suc (suc n)) ⊕ x)
      (D-add-at (S.scale L (p 0) (tail q)) (tail p ⊠ q) n ∙ ap₂ ◌⊕◌ (D-scale-at (p 0) (tail q) n) (D-mul-at (tail p) q n))
      ∙ leibniz_shape (p 0) (q (suc (suc n))) (p 1 ⊗ q (suc n)) (D (tail q) n) ((tail (tail p) ⊠ q) n) ((D (tail p) ⊠ q) n) ((tail p ⊠ D q) n)
      ∙ ap (λ x. (p 1 ⊗ q (suc n) ⊕ x) ⊕ (p ⊠ D q) (suc n)) (sym (S.add-mul-at L (tail (tail p)) (D (tail p)) q n))

  D-D-at : (p : Series F) (n : ℕ) → D (D p) n ≡ 𝟘
  unfolding D S.tail S.◌⊞◌
  D-D-at p zero = L.add_self _
  D-D-at p (suc n) =
      ap (λ x. D p (suc (suc n)) ⊕ x) (D-add-at (tail (tail p)) (D (tail p)) n ∙ ap (λ x. D (tail (tail p)) n ⊕ x) (D-D-at (tail p) n))
      ∙ (simp (ring, L))

  -- the derivative of series
  pub D-add : (p q : Series F) → D (p ⊞ q) ≡ D p ⊞ D q
  unfolding S.◌⊞◌
  D-add p q = fun_ext (D-add-at p q)

  pub D-mul : (p q : Series F) → D (p ⊠ q) ≡ D p ⊠ q ⊞ p ⊠ D q
  unfolding S.◌⊞◌
  D-mul p q = fun_ext (D-mul-at p q)

  pub D-two : (p : Series F) → D (D p) ≡ O
  unfolding S.O
  D-two p = fun_ext (D-D-at p)

  pub D-C : (a : F) → D (C a) ≡ O
  unfolding S.C S.O D
  D-C a = fun_ext go
    where
      zer : (n : ℕ) → D (λ i. 𝟘) n ≡ 𝟘
      zer zero = refl
      zer (suc n) = ap (λ x. 𝟘 ⊕ x) (zer n) ∙ L.add_self 𝟘

      go : (n : ℕ) → D (C a) n ≡ 𝟘
      go zero = refl
      go (suc n) = ap (λ x. 𝟘 ⊕ x) (zer n) ∙ L.add_self 𝟘

  pub D-X : D X ≡ C 𝟙
  unfolding S.X S.C D S.O
  D-X = fun_ext go
    where
      go : (n : ℕ) → D X n ≡ C 𝟙 n
      go zero = refl
      go (suc n) = ap (λ x. 𝟘 ⊕ x) (ap (λ p. p n) (D-C 𝟙)) ∙ L.add_self 𝟘
