-- The value of a polynomial at a point and the quotient by X + a: p = p(a) + (X + a)·quot. Assumes nothing.
use mathlib.Core.Path.{◌≡◌, refl, sym, ◌∙◌, ap, ap₂}
use Prim.Native.Nat.{ℕ, zero, suc}
use native.Mathlib.Omega.{arith}
use Rattle.algebra.proofs.Ring.{Ring, ring, add_cancel, mul-zero}
use Rattle.algebra.proofs.Identities.{remainder_product, cancel_factor, unit_cancel, same_remainder, product_remainder}
use Rattle.algebra.proofs.Series as S
use Rattle.algebra.proofs.Series.{Series, operations, C-at, X-suc, add-mul-at, C-add, C-mul, C-zero, split}
use Rattle.algebra.proofs.Derivative.{D, D-add, D-C, D-X}
use Rattle.algebra.proofs.Poly.{Below, Poly, below_tail, below_zero, below_add, below_scale, below_C, below_X, poly_add, poly_mul_lem, poly_C}

module _ {F : Type 0} {𝟘 𝟙 : F} {◌⊕◌ ◌⊗◌ : F → F → F} (L : Ring 𝟘 𝟙 ◌⊕◌ ◌⊗◌) where
  open operations L use {◌⊞◌, ◌⊠◌, O, C, X, tail, series}

  infixl 65 ◌⊕◌
  infixl 70 ◌⊗◌
  infixl 65 ◌⊞◌
  infixl 70 ◌⊠◌
  -- p(a), of the first n coefficients
  unfoldable pub eval : ℕ → Series F → F → F
  eval zero p a = 𝟘
  eval (suc n) p a = p 0 ⊕ a ⊗ eval n (λ i. p (suc i)) a

  -- the quotient of p by X + a
  unfoldable pub quot : ℕ → F → Series F → Series F
  quot zero a p = O
  quot (suc n) a p = tail p ⊞ C a ⊠ quot n a (λ i. p (suc i))

  -- X + a
  unfoldable pub lin : F → Series F
  lin a = X ⊞ C a

  div_shape : (x a g e q : Series F) → g ⊞ x ⊠ (e ⊞ (x ⊞ a) ⊠ q) ≡ (g ⊞ a ⊠ e) ⊞ (x ⊞ a) ⊠ ((e ⊞ (x ⊞ a) ⊠ q) ⊞ a ⊠ q)
  div_shape x a g e q = let R = series in simp (ring, R)

  pub divide_lin : (n : ℕ) (a : F) (p : Series F) → Below L n p → p ≡ C (eval n p a) ⊞ lin a ⊠ quot n a p
  unfolding eval quot lin S.tail
  divide_lin zero a p b = let R = series in below_zero L b ∙ simp (ring, R, C-zero L)
  divide_lin (suc n) a p b = let R = series in
      let ih = divide_lin n a (tail p) (below_tail L b) in
      split L p ∙ ap (λ x. C (p 0) ⊞ X ⊠ x) ih ∙ div_shape X (C a) (C (p 0)) (C (eval n (tail p) a)) (quot n a (tail p)) ∙ ap₂ (λ x y. x ⊞ (X ⊞ C a) ⊠ (y ⊞ C a ⊠ quot n a (tail p))) (simp (C-add L, C-mul L)) (sym ih)

  -- X + a is no zero divisor, and divides no constant but 0
  lin_suc : (a : F) (m : Series F) (n : ℕ) → (lin a ⊠ m) (suc n) ≡ m n ⊕ a ⊗ m (suc n)
  unfolding lin
  lin_suc a m n = add-mul-at L X (C a) m (suc n) ∙ ap₂ ◌⊕◌ (X-suc L m n) (C-at L a m (suc n))

  pub lin_zero : (a c : F) (m : Series F) → Poly L m → lin a ⊠ m ≡ C c → m ≡ O
  unfolding S.C
  lin_zero a c m b e = go b.0 b.1
    where
      step : (n : ℕ) → m n ≡ a ⊗ m (suc n)
      step n = add_cancel L _ _ (sym (lin_suc a m n) ∙ ap (λ p. p (suc n)) e)

      go : (k : ℕ) → Below L k m → m ≡ O
      go zero h = below_zero L h
      go (suc k) h = go k (λ i l. step i ∙ ap (λ x. a ⊗ x) (h (suc i) (omega arith)) ∙ simp (ring, L))

  pub lin_const : (a c : F) (m : Series F) → Poly L m → lin a ⊠ m ≡ C c → c ≡ 𝟘
  unfolding S.C S.O
  lin_const a c m b e = ap (λ p. p 0) (sym e ∙ ap (λ p. lin a ⊠ p) (lin_zero a c m b e) ∙ mul-zero series (lin a))

  pub below_lin : (a : F) → Below L 2 (lin a)
  unfolding lin
  below_lin a = below_add L (below_X L) (λ i h. below_C L a i (omega arith))

  pub poly_lin : (a : F) → Poly L (lin a)
  poly_lin a = (2, below_lin a)

  pub below_quot : (n : ℕ) (a : F) (p : Series F) → Below L (suc n) p → Below L n (quot (suc n) a p)
  unfolding quot S.O S.tail
  below_quot zero a p b = below_add L (below_tail L b) (below_scale L a (λ i h. refl))
  below_quot (suc n) a p b = below_add L (below_tail L b) (below_scale L a (λ i h. below_quot n a (tail p) (below_tail L b) i (omega arith)))

  pub poly_quot : (n : ℕ) (a : F) (p : Series F) → Below L n p → Poly L (quot n a p)
  unfolding quot S.O
  poly_quot zero a p b = (0, λ i h. refl)
  poly_quot (suc n) a p b = (n, below_quot n a p b)

  -- G is not 0 at a: what G divides of (X + a) Z it divides of Z
  pub coprime : (a w : F) (n : ℕ) (G K Z : Series F) → Below L n G → Poly L K → Poly L Z → w ⊗ eval n G a ≡ 𝟙 → lin a ⊠ Z ≡ G ⊠ K
      → (k : Series F) × Poly L k × (Z ≡ G ⊠ k)
  coprime a w n G K Z bG pK pZ u e = (quot m a K, pk, add_cancel series Z (G ⊠ quot m a K) (lin_zero a 𝟘 _ (poly_add L pZ (poly_mul_lem L (n, bG) pk)) (cancel_factor series (lin a) Z G K (quot m a K) e_k e ∙ sym (C-zero L))))
    where
      m : ℕ
      m = pK.0

      pk : Poly L (quot m a K)
      pk = poly_quot m a K pK.1

      v : eval n G a ⊗ eval m K a ≡ 𝟘
      v = lin_const a _ _ (poly_add L pZ (poly_add L (poly_mul_lem L (poly_C L _) pk) (poly_mul_lem L (poly_quot n a G bG) pK)))
          (remainder_product series (lin a) Z (C (eval n G a)) (C (eval m K a)) (quot n a G) (quot m a K) G K (divide_lin n a G bG) (divide_lin m a K pK.1) e ∙ sym (C-mul L _ _))

      zer : eval m K a ≡ 𝟘
      zer = unit_cancel L w _ _ u v

      e_k : K ≡ lin a ⊠ quot m a K
      e_k = divide_lin m a K pK.1 ∙ ap (λ x. C x ⊞ lin a ⊠ quot m a K) zer ∙ (let R = series in simp (ring, R, C-zero L))

  pub D-lin : (a : F) → D L (lin a) ≡ C 𝟙
  unfolding lin
  D-lin a = let R = series in simp (D-add L, (D-X L), D-C L, ring, R)

  -- the value at a is the remainder by X + a, so values multiply
  pub eval_unique : (n : ℕ) (a c : F) (p m : Series F) → Below L n p → Poly L m → p ≡ C c ⊞ lin a ⊠ m → eval n p a ≡ c
  eval_unique n a c p m b pm e = add_cancel L _ _ (lin_const a _ _ (poly_add L (poly_quot n a p b) pm)
      (same_remainder series p (C (eval n p a)) (C c) (lin a) (quot n a p) m (divide_lin n a p b) e ∙ sym (C-add L _ _)))

  pub eval_mul : (n m k : ℕ) (a : F) (p q : Series F) → Below L n p → Below L m q → Below L k (p ⊠ q) → eval k (p ⊠ q) a ≡ eval n p a ⊗ eval m q a
  eval_mul n m k a p q b c d = eval_unique k a _ (p ⊠ q) (C (eval n p a) ⊠ quot m a q ⊞ quot n a p ⊠ q) d
      (poly_add L (poly_mul_lem L (poly_C L _) (poly_quot m a q c)) (poly_mul_lem L (poly_quot n a p b) (m, c)))
      (product_remainder series _ _ (lin a) _ _ p q (divide_lin n a p b) (divide_lin m a q c)
      ∙ ap (λ x. x ⊞ lin a ⊠ (C (eval n p a) ⊠ quot m a q ⊞ quot n a p ⊠ q)) (sym (C-mul L _ _)))
