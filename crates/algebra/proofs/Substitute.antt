-- The value of a polynomial at a polynomial h: p(h) is the remainder of p(Y) by Y + h, over the series as the ring of
-- coefficients. Values are unique, add and multiply. Assumes nothing.
use mathlib.Core.Path.{◌≡◌, refl, sym, ◌∙◌, ap, ap₂, fun_ext}
use mathlib.Core.List.{List, [], ◌∷◌}
use Prim.Native.Nat.{ℕ, zero, suc}
use Rattle.algebra.proofs.Ring.{Ring, ring, add_cancel, mul-zero}
use Rattle.algebra.proofs.Identities.{same_remainder, product_remainder}
use Rattle.algebra.proofs.Series as S
use Rattle.algebra.proofs.Series.{Series, operations, C-mul, C-add, C-zero}
use Rattle.algebra.proofs.Poly.{Poly, poly_add, poly_mul_lem, poly_C}
use Rattle.algebra.proofs.Eval.{lin, lin_const}
use Rattle.algebra.proofs.Goppa.{sigma, poly_sigma}
use Rattle.algebra.proofs.Factor.{frob}

module _ {A : Type 0} {𝟘 𝟙 : A} {◌⊕◌ ◌⊗◌ : A → A → A} (L : Ring 𝟘 𝟙 ◌⊕◌ ◌⊗◌) where
  infixl 65 ◌⊕◌
  infixl 70 ◌⊗◌
  pub sum_remainder : (e f l a b p q : A) → p ≡ e ⊕ l ⊗ a → q ≡ f ⊕ l ⊗ b → p ⊕ q ≡ (e ⊕ f) ⊕ l ⊗ (a ⊕ b)
  sum_remainder e f l a b p q x y = ap₂ ◌⊕◌ x y ∙ simp (ring, L)

  pub self_remainder : (x h : A) → x ≡ h ⊕ (x ⊕ h) ⊗ 𝟙
  self_remainder x h = simp (ring, L)

module _ {F : Type 0} {𝟘 𝟙 : F} {◌⊕◌ ◌⊗◌ : F → F → F} (L : Ring 𝟘 𝟙 ◌⊕◌ ◌⊗◌) where
  open operations L use {◌⊞◌, ◌⊠◌, O, C, series}

  abbrev R₂ : Ring (S.O series) (S.C series (C 𝟙)) (S.◌⊞◌ series) (S.◌⊠◌ series)
  R₂ = S.series series

  infixl 65 ◌⊞◌
  infixl 70 ◌⊠◌
  infixl 65 ◌⊞₂◌
  infixl 70 ◌⊠₂◌
  abbrev ◌⊞₂◌ : (ℕ → Series F) → (ℕ → Series F) → ℕ → Series F
  ◌⊞₂◌ = S.◌⊞◌ series

  abbrev ◌⊠₂◌ : (ℕ → Series F) → (ℕ → Series F) → ℕ → Series F
  ◌⊠₂◌ = S.◌⊠◌ series

  -- each coefficient as a constant
  unfoldable pub lift : (ℕ → F) → ℕ → ℕ → F
  lift p = λ n. C (p n)

  lift_add : (p q : Series F) → lift (p ⊞ q) ≡ lift p ⊞₂ lift q
  unfolding lift S.◌⊞◌
  lift_add p q = fun_ext λ n. C-add L (p n) (q n)

  lift_mul-at : (n : ℕ) (p q : Series F) → C ((p ⊠ q) n) ≡ (lift p ⊠₂ lift q) n
  unfolding lift S.◌⊠◌
  lift_mul-at zero p q = C-mul L _ _
  lift_mul-at (suc n) p q = C-add L _ _ ∙ ap₂ (S.◌⊞◌ L) (C-mul L _ _) (lift_mul-at n (λ i. p (suc i)) q)

  lift_mul : (p q : Series F) → lift (p ⊠ q) ≡ lift p ⊠₂ lift q
  unfolding lift
  lift_mul p q = fun_ext λ n. lift_mul-at n p q

  lift_C : (a : F) → lift (C a) ≡ S.C series (C a)
  unfolding lift S.C
  lift_C a = fun_ext go
    where
      go : (n : ℕ) → C (C a n) ≡ S.C series (C a) n
      go zero = refl
      go (suc n) = C-zero L

  lift_X : lift (S.X L) ≡ S.X series
  unfolding lift S.X
  lift_X = fun_ext go
    where
      go : (n : ℕ) → C (S.X L n) ≡ S.X series n
      go zero = C-zero L
      go (suc n) = ap (λ p. p n) (lift_C 𝟙)

  -- p(h) = y
  pub record Value (h p y : ℕ → F) : Type 0 where
    pub quot : ℕ → ℕ → F
    pub poly : Poly (S.series L) quot
    pub eq : lift p ≡ S.◌⊞◌ (S.series L) (S.C (S.series L) y) (S.◌⊠◌ (S.series L) (lin (S.series L) h) quot)

  poly_lift : {p : Series F} → Poly L p → Poly series (lift p)
  unfolding lift
  poly_lift b = (b.0, λ i k. ap C (b.1 i k) ∙ C-zero L)

  poly_frob : (k : ℕ) {p : Series F} → Poly L p → Poly L (frob series k p)
  unfolding frob
  poly_frob zero b = b
  poly_frob (suc k) b = poly_mul_lem L (poly_frob k b) (poly_frob k b)

  module _ {h : Series F} where
    pub value_unique : {p y z : Series F} → Value h p y → Value h p z → y ≡ z
    value_unique {p} {y} {z} a b = add_cancel series y z (lin_const series h (y ⊞ z) _ (poly_add series a.poly b.poly)
        (same_remainder R₂ (lift p) (S.C series y) (S.C series z) (lin series h) a.quot b.quot a.eq b.eq ∙ sym (C-add series y z)))

    pub value-add : {p q y z : Series F} → Value h p y → Value h q z → Value h (p ⊞ q) (y ⊞ z)
    value-add {p} {q} {y} {z} a b = record {
      quot = a.quot ⊞₂ b.quot;
      poly = poly_add series a.poly b.poly;
      eq = lift_add p q ∙ sum_remainder R₂ (S.C series y) (S.C series z) (lin series h) a.quot b.quot (lift p) (lift q) a.eq b.eq
          ∙ ap (λ x. x ⊞₂ lin series h ⊠₂ (a.quot ⊞₂ b.quot)) (sym (C-add series y z));
    }

    pub value-mul : {p q y z : Series F} → Poly L q → Value h p y → Value h q z → Value h (p ⊠ q) (y ⊠ z)
    value-mul {p} {q} {y} {z} pq a b = record {
      quot = S.C series y ⊠₂ b.quot ⊞₂ a.quot ⊠₂ lift q;
      poly = poly_add series (poly_mul_lem series (poly_C series y) b.poly) (poly_mul_lem series a.poly (poly_lift pq));
      eq = lift_mul p q ∙ product_remainder R₂ (S.C series y) (S.C series z) (lin series h) a.quot b.quot (lift p) (lift q) a.eq b.eq
          ∙ ap (λ x. x ⊞₂ lin series h ⊠₂ (S.C series y ⊠₂ b.quot ⊞₂ a.quot ⊠₂ lift q)) (sym (C-mul series y z));
    }

    pub value_C : (a : F) → Value h (C a) (C a)
    unfolding S.O
    value_C a = record { quot = S.O series; poly = (0, λ i k. refl); eq = lift_C a ∙ sym (ap (λ x. S.C series (C a) ⊞₂ x) (mul-zero R₂ _) ∙ R₂.add-zero _) }

    pub value_X : Value h (S.X L) h
    unfolding lin
    value_X = record { quot = S.C series (S.C L 𝟙); poly = poly_C series _; eq = lift_X ∙ self_remainder R₂ (S.X series) (S.C series h) }

    pub value_lin : (a : F) → Value h (lin L a) (h ⊞ C a)
    unfolding lin
    value_lin a = value-add value_X (value_C a)

    pub value_frob : (k : ℕ) {p y : Series F} → Poly L p → Value h p y → Value h (frob series k p) (frob series k y)
    unfolding frob
    value_frob zero b a = a
    value_frob (suc k) b a = value-mul (poly_frob k b) (value_frob k b a) (value_frob k b a)

  -- the product of the h + a
  unfoldable pub product : (ℕ → F) → List F → ℕ → F
  product h [] = C 𝟙
  product h (a ∷ E) = (h ⊞ C a) ⊠ product h E

  pub value_sigma : {h : Series F} (E : List F) → Value h (sigma L E) (product h E)
  unfolding sigma product
  value_sigma [] = value_C 𝟙
  value_sigma (a ∷ E) = value-mul (poly_sigma L E) (value_lin a) (value_sigma E)
