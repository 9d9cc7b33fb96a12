-- Goppa's theorem without square roots. For the points E where a word is 1, σ = Π (X + a), and G monic of degree n with
-- G(a)·w(a) = 1 on E: the n power sums of weight w are 0 if and only if G divides σ'. Assumes nothing.
use mathlib.Core.Path.{◌≡◌, refl, sym, ◌∙◌, ap, ap₂, subst}
use mathlib.Core.List.{List, [], ◌∷◌}
use Prim.Native.Nat.{ℕ, zero, suc, ◌+◌, ◌≤◌, ◌<◌}
use native.Mathlib.Omega.{arith}
use Rattle.algebra.proofs.Ring.{Ring, ring, add_cancel, one-mul, mul-zero}
use Rattle.algebra.proofs.Identities.{key_step, split-sum, bezout_divides}
use Rattle.algebra.proofs.Points.{All, all_of, all_map, pow, pow-suc, total, total_cong, total_none, total-add, total-mul, power_sum, power_sum_suc}
use Rattle.algebra.proofs.Series as S
use Rattle.algebra.proofs.Series.{Series, operations, C-at, C-add, C-mul, C-zero}
use Rattle.algebra.proofs.Derivative.{D, D-mul, D-two, D-C}
use Rattle.algebra.proofs.Poly.{Below, Poly, below_tail, below_zero, below_add, below_scale, poly_add, poly_mul_lem, poly_C, poly_D, Monic, monic-mul, monic_multiple}
use Rattle.algebra.proofs.Eval.{eval, quot, lin, divide_lin, poly_lin, below_quot, coprime, eval_mul, D-lin}

module _ {F : Type 0} {𝟘 𝟙 : F} {◌⊕◌ ◌⊗◌ : F → F → F} (L : Ring 𝟘 𝟙 ◌⊕◌ ◌⊗◌) where
  open operations L use {◌⊞◌, ◌⊠◌, O, C, tail, series}

  infixl 65 ◌⊕◌
  infixl 70 ◌⊗◌
  infixl 65 ◌⊞◌
  infixl 70 ◌⊠◌
  -- σ = Π (X + a)
  unfoldable pub sigma : List F → Series F
  sigma [] = C 𝟙
  sigma (a ∷ E) = lin L a ⊠ sigma E

  -- Σ w(a)·σ/(X + a)
  unfoldable pub cofactors : (F → F) → List F → Series F
  cofactors w [] = O
  cofactors w (a ∷ E) = C (w a) ⊠ sigma E ⊞ lin L a ⊠ cofactors w E

  -- Σ w(a)·(G - G(a))/(X + a)
  unfoldable pub quotients : ℕ → Series F → (F → F) → List F → Series F
  quotients n G w [] = O
  quotients n G w (a ∷ E) = C (w a) ⊠ quot L n a G ⊞ quotients n G w E

  -- w(a) is the inverse of G(a) at each point
  unfoldable pub Reciprocals : ℕ → Series F → (F → F) → List F → Type 0
  Reciprocals n G w E = All (λ a. w a ⊗ eval L n G a ≡ 𝟙) E

  -- G·Σ w(a)·σ/(X + a) + σ' = σ·Σ w(a)·(G - G(a))/(X + a)
  pub key_identity : (n : ℕ) (G : Series F) (w : F → F) (E : List F) → Below L n G → Reciprocals n G w E
      → G ⊠ cofactors w E ⊞ D L (sigma E) ≡ sigma E ⊠ quotients n G w E
  unfolding sigma cofactors quotients Reciprocals
  key_identity n G w [] b u = let R = series in simp (ring, R, D-C L)
  key_identity n G w (a ∷ E) b u =
      ap (λ x. G ⊠ (C (w a) ⊠ sigma E ⊞ lin L a ⊠ cofactors w E) ⊞ x) (D-mul L (lin L a) (sigma E) ∙ ap (λ x. x ⊠ sigma E ⊞ lin L a ⊠ D L (sigma E)) (D-lin L a))
      ∙ key_step series G (cofactors w E) (D L (sigma E)) (sigma E) (quotients n G w E) (lin L a) (C (w a)) (C (eval L n G a)) (quot L n a G)
      (sym (C-mul L _ _) ∙ ap C u.0) (divide_lin L n a G b) (key_identity n G w E b u.1)

  -- the quotients are triangular in the power sums
  quotients_step : (n : ℕ) (G : Series F) (w : F → F) (E : List F)
      → quotients (suc n) G w E ≡ C (power_sum L w 0 E) ⊠ tail G ⊞ quotients n (tail G) (λ a. w a ⊗ a) E
  unfolding quotients total quot pow S.tail
  quotients_step n G w [] = let R = series in simp (ring, R, C-zero L)
  quotients_step n G w (a ∷ E) =
      ap (λ x. C (w a) ⊠ quot L (suc n) a G ⊞ x) (quotients_step n G w E)
      ∙ split-sum series (C (w a)) (tail G) (C a) (quot L n a (tail G)) (C (power_sum L w 0 E)) (quotients n (tail G) (λ b. w b ⊗ b) E)
      ∙ ap₂ (λ x y. x ⊠ tail G ⊞ (y ⊠ quot L n a (tail G) ⊞ quotients n (tail G) (λ b. w b ⊗ b) E))
      (sym (C-add L _ _) ∙ ap (λ x. C (x ⊕ power_sum L w 0 E)) (sym (L.mul-one (w a)))) (sym (C-mul L (w a) a))

  quotients_zero : (G : Series F) (w : F → F) (E : List F) → quotients 0 G w E ≡ O
  unfolding quotients quot
  quotients_zero G w [] = refl
  quotients_zero G w (a ∷ E) = ap (λ x. C (w a) ⊠ O ⊞ x) (quotients_zero G w E) ∙ (let R = series in simp (ring, R))

  below_quotients : (n : ℕ) (G : Series F) (w : F → F) (E : List F) → Below L (suc n) G → Below L n (quotients (suc n) G w E)
  unfolding quotients S.O
  below_quotients n G w [] b = λ i h. refl
  below_quotients n G w (a ∷ E) b = below_add L (below_scale L (w a) (below_quot L n a G b)) (below_quotients n G w E b)

  -- power sums that are 0 make the quotients 0, and the other way round
  vanish : (n : ℕ) (G : Series F) (w : F → F) (E : List F) → Below L n G → ((s : ℕ) → suc s < n → power_sum L w s E ≡ 𝟘) → quotients n G w E ≡ O
  vanish zero G w E b h = quotients_zero G w E
  vanish (suc zero) G w E b h =
      quotients_step 0 G w E ∙ ap₂ (λ x y. C (power_sum L w 0 E) ⊠ x ⊞ y) (below_zero L (below_tail L b)) (quotients_zero (tail G) _ E) ∙ (let R = series in simp (ring, R))
  vanish (suc (suc n)) G w E b h =
      quotients_step (suc n) G w E
      ∙ ap₂ (λ x y. C x ⊠ tail G ⊞ y) (h 0 (omega arith)) (vanish (suc n) (tail G) _ E (below_tail L b) (λ s k. power_sum_suc L w s E ∙ h (suc s) (omega arith)))
      ∙ (let R = series in simp (ring, R, C-zero L))

  pub drop-zero : (p q : Series F) → C 𝟘 ⊠ p ⊞ q ≡ q
  drop-zero p q = let R = series in simp (ring, R, C-zero L)

  pub poly_sigma : (E : List F) → Poly L (sigma E)
  unfolding sigma
  poly_sigma [] = poly_C L 𝟙
  poly_sigma (a ∷ E) = poly_mul_lem L (poly_lin L a) (poly_sigma E)

  poly_cofactors : (w : F → F) (E : List F) → Poly L (cofactors w E)
  unfolding cofactors S.O
  poly_cofactors w [] = (0, λ i h. refl)
  poly_cofactors w (a ∷ E) = poly_add L (poly_mul_lem L (poly_C L (w a)) (poly_sigma E)) (poly_mul_lem L (poly_lin L a) (poly_cofactors w E))

  recover : (n : ℕ) (G : Series F) (w : F → F) (E : List F) → Below L (suc n) G → G n ≡ 𝟙 → quotients (suc n) G w E ≡ O
      → (s : ℕ) → s < n → power_sum L w s E ≡ 𝟘
  unfolding S.tail S.◌⊞◌ S.O
  recover zero G w E b m e = λ s k. absurd (omega arith)
  recover (suc n) G w E b m e = go (recover n (tail G) (λ a. w a ⊗ a) E (below_tail L b) m rest)
    where
      sum : C (power_sum L w 0 E) ⊠ tail G ⊞ quotients (suc n) (tail G) (λ a. w a ⊗ a) E ≡ O
      sum = sym (quotients_step (suc n) G w E) ∙ e

      low : quotients (suc n) (tail G) (λ a. w a ⊗ a) E n ≡ 𝟘
      low = below_quotients n (tail G) (λ a. w a ⊗ a) E (below_tail L b) n (omega arith)

      first : power_sum L w 0 E ≡ 𝟘
      first = sym (L.mul-one _) ∙ ap (λ x. power_sum L w 0 E ⊗ x) (sym m) ∙ sym (L.add-zero _)
          ∙ ap₂ ◌⊕◌ (sym (C-at L (power_sum L w 0 E) (tail G) n)) (sym low) ∙ ap (λ p. p n) sum

      rest : quotients (suc n) (tail G) (λ a. w a ⊗ a) E ≡ O
      rest = sym (drop-zero (tail G) (quotients (suc n) (tail G) (λ a. w a ⊗ a) E)) ∙ ap (λ x. C x ⊠ tail G ⊞ quotients (suc n) (tail G) (λ a. w a ⊗ a) E) (sym first) ∙ sum

      go : ((s : ℕ) → s < n → power_sum L (λ a. w a ⊗ a) s E ≡ 𝟘) → (s : ℕ) → s < suc n → power_sum L w s E ≡ 𝟘
      go r zero k = first
      go r (suc s) k = sym (power_sum_suc L w s E) ∙ r s (omega arith)

  -- what G, not 0 on E, divides of a multiple σ·Z, it divides of Z
  cancel_sigma : (n : ℕ) (G : Series F) (w : F → F) (E : List F) (Z K : Series F) → Below L n G → Reciprocals n G w E → Poly L Z → Poly L K
      → sigma E ⊠ Z ≡ G ⊠ K → (k : Series F) × Poly L k × (Z ≡ G ⊠ k)
  unfolding sigma Reciprocals
  cancel_sigma n G w [] Z K b u pZ pK e = (K, pK, sym (one-mul series Z) ∙ e)
  cancel_sigma n G w (a ∷ E) Z K b u pZ pK e =
      let c = coprime L a (w a) n G K (sigma E ⊠ Z) b pK (poly_mul_lem L (poly_sigma E) pZ) u.0 (sym (series.mul_assoc _ _ _) ∙ e) in
      cancel_sigma n G w E Z c.0 b u.1 pZ c.1 c.2

  -- the n power sums are 0 if and only if G divides σ'
  pub sums_divide : (n : ℕ) (G : Series F) (w : F → F) (E : List F) → Below L (suc n) G → Reciprocals (suc n) G w E
      → ((s : ℕ) → s < n → power_sum L w s E ≡ 𝟘) → D L (sigma E) ≡ G ⊠ cofactors w E
  sums_divide n G w E b u h = sym (add_cancel series _ _
      (key_identity (suc n) G w E b u ∙ ap (λ x. sigma E ⊠ x) (vanish (suc n) G w E b (λ s k. h s (omega arith))) ∙ mul-zero series (sigma E)))

  pub divide_sums : (n : ℕ) (G : Series F) (w : F → F) (E : List F) (B : Series F) → Monic L n G → Reciprocals (suc n) G w E
      → Poly L B → D L (sigma E) ≡ G ⊠ B → (s : ℕ) → s < n → power_sum L w s E ≡ 𝟘
  divide_sums n G w E B m u pB e = recover n G w E m.below m.lead zer
    where
      Y : Series F
      Y = quotients (suc n) G w E

      p_y : Below L n Y
      p_y = below_quotients n G w E m.below

      multiple : sigma E ⊠ Y ≡ G ⊠ (cofactors w E ⊞ B)
      multiple = sym (key_identity (suc n) G w E m.below u) ∙ ap (λ x. G ⊠ cofactors w E ⊞ x) e ∙ sym (series.mul-add _ _ _)

      k : (k : Series F) × Poly L k × (Y ≡ G ⊠ k)
      k = cancel_sigma (suc n) G w E Y (cofactors w E ⊞ B) m.below u (n, p_y) (poly_add L (poly_cofactors w E) pB) multiple

      zer : Y ≡ O
      zer = k.2 ∙ ap (λ x. G ⊠ x) (monic_multiple L k.0 m k.1 (subst (Below L n) k.2 p_y)) ∙ mul-zero series G

  square_reciprocals : (n m : ℕ) (g : Series F) (w : F → F) (E : List F) → Below L n g → Below L m (g ⊠ g) → Reciprocals n g w E → Reciprocals m (g ⊠ g) (λ a. w a ⊗ w a) E
  unfolding Reciprocals
  square_reciprocals n m g w [] b c u = tt
  square_reciprocals n m g w (a ∷ E) b c u =
      (ap (λ x. (w a ⊗ w a) ⊗ x) (eval_mul L n n m a g g b b c) ∙ four ∙ ap₂ ◌⊗◌ u.0 u.0 ∙ L.mul-one 𝟙, square_reciprocals n m g w E b c u.1)
    where
      four : (w a ⊗ w a) ⊗ (eval L n g a ⊗ eval L n g a) ≡ (w a ⊗ eval L n g a) ⊗ (w a ⊗ eval L n g a)
      four = simp (ring, L)

  -- g of degree t, monic, with u g + v g' = 1
  pub record Separable (t : ℕ) (g : Series F) : Type 0 where
    pub monic : Monic L t g
    pub u : Series F
    pub v : Series F
    pub poly_u : Poly L u
    pub poly_v : Poly L v
    pub bezout : u ⊠ g ⊞ v ⊠ D L g ≡ C 𝟙

  module _ (t : ℕ) (g : Series F) (w : F → F) (E : List F) (G : Separable t g) (r : Reciprocals (suc t) g w E) (h : (s : ℕ) → s < t → power_sum L w s E ≡ 𝟘) where
    pub square_divides : (B : Series F) × Poly L B × (D L (sigma E) ≡ (g ⊠ g) ⊠ B)
    square_divides = (
      G.u ⊠ W ⊞ G.v ⊠ D L W,
      poly_add L (poly_mul_lem L G.poly_u p_w) (poly_mul_lem L G.poly_v (poly_D L p_w)),
      once ∙ ap (λ x. g ⊠ x) (sym (bezout_divides series g (D L g) W (D L W) G.u G.v cross G.bezout)) ∙ sym (series.mul_assoc _ _ _),
    )
      where
        W : Series F
        W = cofactors w E

        p_w : Poly L W
        p_w = poly_cofactors w E

        once : D L (sigma E) ≡ g ⊠ W
        once = sums_divide t g w E G.monic.below r h

        cross : D L g ⊠ W ⊞ g ⊠ D L W ≡ O
        cross = sym (D-mul L g W) ∙ ap (D L) (sym once) ∙ D-two L (sigma E)

    -- t power sums for g are 0: then so are 2t for g²
    pub goppa : (s : ℕ) → s < t + t → power_sum L (λ a. w a ⊗ w a) s E ≡ 𝟘
    goppa = divide_sums (t + t) (g ⊠ g) (λ a. w a ⊗ w a) E square_divides.0 square
        (square_reciprocals (suc t) (suc (t + t)) g w E G.monic.below square.below r) square_divides.1 square_divides.2
      where
        square : Monic L (t + t) (g ⊠ g)
        square = monic-mul L G.monic G.monic

  -- sums of weight v that are 0 make those of weight v·g(a) 0, g of n coefficients: Σ v·g(a)·a^s = Σ g_j Σ v·a^(s+j)
  weigh : (n N : ℕ) (g : Series F) (v : F → F) (E : List F) → ((s : ℕ) → s < N → power_sum L v s E ≡ 𝟘)
      → (s : ℕ) → s + n ≤ N → power_sum L (λ a. v a ⊗ eval L n g a) s E ≡ 𝟘
  unfolding eval S.tail
  weigh zero N g v E h s b = total_none L _ E (all_of _ E (λ a m. simp (ring, L)))
  weigh (suc n) N g v E h s b =
      total_cong L _ (λ a. g 0 ⊗ (v a ⊗ pow L a s) ⊕ v a ⊗ eval L n (tail g) a ⊗ pow L a (suc s)) E
      (all_of _ E (λ a m. spread (v a) (g 0) a (eval L n (tail g) a) (pow L a s)
      ∙ ap (λ x. g 0 ⊗ (v a ⊗ pow L a s) ⊕ v a ⊗ eval L n (tail g) a ⊗ x) (sym (pow-suc L a s))))
      ∙ total-add L _ _ E
      ∙ ap₂ ◌⊕◌ (total-mul L (g 0) _ E ∙ ap (λ x. g 0 ⊗ x) (h s (omega arith)) ∙ mul-zero L (g 0)) (weigh n N (tail g) v E h (suc s) (omega arith))
      ∙ L.add_self 𝟘
    where
      spread : (v c a e p : F) → v ⊗ (c ⊕ a ⊗ e) ⊗ p ≡ c ⊗ (v ⊗ p) ⊕ v ⊗ e ⊗ (a ⊗ p)
      spread v c a e p = simp (ring, L)

  -- and back: 2t power sums for g² are 0, then so are t for g
  pub goppa_back : (t : ℕ) (g : Series F) (w : F → F) (E : List F) → Reciprocals (suc t) g w E
      → ((s : ℕ) → s < t + t → power_sum L (λ a. w a ⊗ w a) s E ≡ 𝟘) → (s : ℕ) → s < t → power_sum L w s E ≡ 𝟘
  unfolding Reciprocals
  goppa_back t g w E r h s b =
      total_cong L _ _ E (all_map _ _ (λ a e. ap (λ x. x ⊗ pow L a s) (sym (L.mul_assoc _ _ _ ∙ ap (λ x. w a ⊗ x) e ∙ L.mul-one (w a)))) E r)
      ∙ weigh (suc t) (t + t) g (λ a. w a ⊗ w a) E h s (omega arith)
