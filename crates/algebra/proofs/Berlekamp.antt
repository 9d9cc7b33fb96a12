-- Berlekamp's criterion over a finite field of 2^m elements: a separable g of degree t is without factors exactly where the
-- residues h with h^(2^m) = h are the constants. Assumes nothing.
use mathlib.Core.Path.{◌≡◌, refl, sym, ◌∙◌, ap, ap₂, subst}
use mathlib.Core.Logic.{◌⊎◌, inl, inr}
use mathlib.Core.List.{List, [], ◌∷◌}
use Prim.Native.Nat.{ℕ, zero, suc, ◌+◌, ◌^◌, ◌≤◌, ◌<◌}
use native.Mathlib.Nat.{eq-or-lt_of_le, pow-suc}
use native.Mathlib.Omega.{arith}
use lib.ListN.{length}
use lib.Pow.{pow_pos}
use Rattle.algebra.proofs.Ring.{ring, add_cancel, zero-add}
use Rattle.algebra.proofs.Field.{Field}
use Rattle.algebra.proofs.Points.{All, Distinct, all_map}
use Rattle.algebra.proofs.Series as S
use Rattle.algebra.proofs.Series.{Series, operations, C-mul, C-zero, split}
use Rattle.algebra.proofs.Poly.{Below, Poly, Monic, monic-mul, below_add, below_zero, below_tail, below_C, below_X, poly_add, poly_mul_lem, poly_C}
use Rattle.algebra.proofs.Eval.{lin, eval, below_lin, poly_lin, eval_unique}
use Rattle.algebra.proofs.Roots.{roots}
use Rattle.algebra.proofs.Goppa.{sigma, poly_sigma, Separable}
use Rattle.algebra.proofs.Euclid.{Gcd, euclid}
use Rattle.algebra.proofs.Factor.{frob, frob_add, prime_shape, Div, div, div_add, div_mul, div_of, div_to, div_frob, div_low, Prime, Rigid, rigid_prime}
use Rattle.algebra.proofs.Substitute.{Value, product, value_sigma, value_frob, value_X, value-add, value_unique}

module _ (K : Field) where
  open K use {F, 𝟘, 𝟙, ◌⊕◌, ◌⊗◌, inv, laws as L, 𝟙≢𝟘}

  infixl 65 ◌⊕◌
  infixl 70 ◌⊗◌
  open operations L use {◌⊞◌, ◌⊠◌, O, C, X, series}

  infixl 65 ◌⊞◌
  infixl 70 ◌⊠◌
  -- monic polynomials
  pub monic_lin : (a : F) → Monic L 1 (lin L a)
  unfolding lin S.◌⊞◌ S.X S.C
  monic_lin a = record { below = below_lin L a; lead = L.add-zero 𝟙 }

  monic_X : Monic L 1 X
  unfolding S.X S.C
  monic_X = record { below = below_X L; lead = refl }

  pub monic_sigma : (E : List F) → Monic L (length E) (sigma L E)
  unfolding sigma S.C
  monic_sigma [] = record { below = below_C L 𝟙; lead = refl }
  monic_sigma (a ∷ E) = let e : 1 + length E ≡ suc (length E) = omega arith in subst (λ n. Monic L n (lin L a ⊠ sigma L E)) e (monic-mul L (monic_lin a) (monic_sigma E))

  monic_frob : (k : ℕ) → Monic L (2 ^ k) (frob series k X)
  unfolding frob
  monic_frob zero = monic_X
  monic_frob (suc k) = let e : 2 ^ k + 2 ^ k ≡ 2 ^ suc k = omega (arith, pow-suc 2 k) in subst (λ n. Monic L n (frob series k X ⊠ frob series k X)) e (monic-mul L (monic_frob k) (monic_frob k))

  pub monic-add : {n : ℕ} {p q : Series F} → Monic L n p → Monic L n q → Below L n (p ⊞ q)
  unfolding S.◌⊞◌
  monic-add {n} {p} {q} a b i h = elim (eq-or-lt_of_le h) [
    | inl e ↦ ap (λ j. p j ⊕ q j) (sym e) ∙ ap₂ ◌⊕◌ a.lead b.lead ∙ L.add_self 𝟙
    | inr l ↦ ap₂ ◌⊕◌ (a.below i l) (b.below i l) ∙ L.add_self 𝟘
  ]

  pub constant : {g : Series F} → Monic L 0 g → g ≡ C 𝟙
  constant {g} m = split L g ∙ ap₂ (λ x y. C x ⊞ X ⊠ y) m.lead (below_zero L (below_tail L m.below)) ∙ (let R = series in simp (ring, R))

  -- a prime that divides a product divides a factor
  module _ {t : ℕ} {g : Series F} (m : Monic L (suc t) g) (pr : Prime K (suc t) g) where
    pub euclid_lemma : {p r : Series F} → Poly L p → Poly L r → Div K g (p ⊠ r) → Div K g p ⊎ Div K g r
    euclid_lemma {p} {r} pp pR d = go G.deg refl
      where
        G : Gcd K (suc t) p g
        G = euclid K (suc t) p g pp m

        same : G.deg ≡ suc t → g ≡ G.gcd
        same e = add_cancel series _ _ (div_low K mg (monic-add m mg) (div K (G.b ⊞ C 𝟙) (poly_add L G.poly_b (poly_C L 𝟙)) (ap (λ x. x ⊞ G.gcd) G.right ∙ shape G.b G.gcd)))
          where
            mg : Monic L (suc t) G.gcd
            mg = subst (λ n. Monic L n G.gcd) e G.monic

            shape : (b d : Series F) → b ⊠ d ⊞ d ≡ d ⊠ (b ⊞ C 𝟙)
            shape b d = let R = series in simp (ring, R)

        go : (k : ℕ) → G.deg ≡ k → Div K g p ⊎ Div K g r
        go zero e = inr (div K (G.u ⊠ d.quot ⊞ G.v ⊠ r) (poly_add L (poly_mul_lem L G.poly_u d.poly) (poly_mul_lem L G.poly_v pR))
            (prime_shape series G.u p G.v g r d.quot (sym (constant (subst (λ n. Monic L n G.gcd) e G.monic)) ∙ G.bezout) d.eq))
        go (suc k) e = elim (eq-or-lt_of_le G.small) [
          | inl z ↦ inl (div K G.a G.poly_a (G.left ∙ ap (λ x. G.a ⊠ x) (sym (same z)) ∙ series.mul_comm _ _))
          | inr l ↦ absurd (pr G.deg G.gcd (omega arith) l G.monic.below (λ z. 𝟙≢𝟘 (sym G.monic.lead ∙ z)) (div K G.b G.poly_b (G.right ∙ series.mul_comm _ _)))
        ]

    poly_product : {h : Series F} → Poly L h → (E : List F) → Poly L (product L h E)
    unfolding product
    poly_product b [] = poly_C L 𝟙
    poly_product b (a ∷ E) = poly_mul_lem L (poly_add L b (poly_C L a)) (poly_product b E)

    -- h is the constant c
    pub product_constant : (h : Series F) → Below L (suc t) h → (E : List F) → Div K g (product L h E) → h ≡ C (h 0)
    unfolding product S.C S.O
    product_constant h b [] d = absurd (𝟙≢𝟘 (ap (λ p. p 0) (div_low K m (λ i k. below_C L 𝟙 i (omega arith)) d)))
    product_constant h b (a ∷ E) d = elim (euclid_lemma (poly_add L (suc t, b) (poly_C L a)) (poly_product (suc t, b) E) d) [
      | inl z ↦ (let e = add_cancel series h (C a) (div_low K m (below_add L b (λ i k. below_C L a i (omega arith))) z) in e ∙ ap C (sym (ap (λ p. p 0) e)))
      | inr z ↦ product_constant h b E z
    ]

  pub record Finite (m : ℕ) : Type 0 where
    pub points : List F
    pub distinct : Distinct points
    pub size : length points ≡ 2 ^ m
    pub fermat : (a : F) → frob L m a ≡ a
    pub positive : 0 < m

  pub frob_C : (k : ℕ) (a : F) → frob series k (C a) ≡ C (frob L k a)
  unfolding frob
  frob_C zero a = refl
  frob_C (suc k) a = ap (λ x. x ⊠ x) (frob_C k a) ∙ sym (C-mul L _ _)

  pub root_zero : (n : ℕ) (a : F) (p : Series F) → Below L n p → Div K (lin L a) p → eval L n p a ≡ 𝟘
  root_zero n a p b d = eval_unique L n a 𝟘 p d.quot b d.poly (d.eq ∙ sym (zero-add series _) ∙ ap (λ x. x ⊞ lin L a ⊠ d.quot) (sym (C-zero L)))

  pub all_roots : (E : List F) → All (λ a. Div K (lin L a) (sigma L E)) E
  unfolding sigma
  all_roots [] = tt
  all_roots (a ∷ E) = (
    div_of K (lin L a) (sigma L E) (poly_sigma L E),
    all_map _ _ (λ b d. div_to K (series.mul_comm _ _) (div_mul K (lin L a) (poly_lin L a) d)) E (all_roots E),
  )

  module _ {m : ℕ} (fin : Finite m) where
    divides_X : (a : F) → Div K (lin L a) (frob series m X ⊞ X)
    unfolding lin
    divides_X a = div_to K same (div_add K (div_frob K m (poly_lin L a) self) self)
      where
        self : Div K (lin L a) (lin L a)
        self = div K (C 𝟙) (poly_C L 𝟙) (sym (series.mul-one _))

        back : (x c : Series F) → x ≡ (x ⊞ c) ⊞ c
        back x c = let R = series in simp (ring, R)

        shape : (f l c : Series F) → (f ⊞ c) ⊞ (l ⊞ c) ≡ f ⊞ l
        shape f l c = let R = series in simp (ring, R)

        same : frob series m (lin L a) ⊞ lin L a ≡ frob series m X ⊞ X
        same = sym (ap (λ z. frob series m z ⊞ z) (back X (C a))
            ∙ ap (λ z. z ⊞ ((X ⊞ C a) ⊞ C a)) (frob_add series m (X ⊞ C a) (C a) ∙ ap (λ z. frob series m (X ⊞ C a) ⊞ z) (frob_C m a ∙ ap C (fin.fermat a)))
            ∙ shape (frob series m (X ⊞ C a)) (X ⊞ C a) (C a))

    -- X^(2^m) + X is the product of the X + a
    pub splits : frob series m X ⊞ X ≡ sigma L fin.points
    splits = add_cancel series _ _ (roots K fin.points P fin.distinct low
        (all_map _ _ (λ a d. root_zero (length fin.points) a P low (div_add K (divides_X a) d)) fin.points (all_roots fin.points)))
      where
        P : Series F
        P = (frob series m X ⊞ X) ⊞ sigma L fin.points

        swap : (f x s : Series F) → (f ⊞ s) ⊞ x ≡ (f ⊞ x) ⊞ s
        swap f x s = let R = series in simp (ring, R)

        two : 2 ≤ length fin.points
        two = grow m fin.positive fin.size
          where
            grow : (k : ℕ) → 0 < k → length fin.points ≡ 2 ^ k → 2 ≤ length fin.points
            grow zero h e = absurd (omega arith)
            grow (suc k) h e = omega (arith, pow-suc 2 k, pow_pos k)

        low : Below L (length fin.points) P
        low = subst (Below L (length fin.points)) (swap (frob series m X) X (sigma L fin.points))
            (below_add L (monic-add (subst (λ n. Monic L n (frob series m X)) (sym fin.size) (monic_frob m)) (monic_sigma fin.points))
            (λ i h. below_X L i (omega (arith, two))))

    -- h^(2^m) + h is the product of the h + a
    pub factors : (h : Series F) → frob series m h ⊞ h ≡ product L h fin.points
    factors h = value_unique L (value-add L (value_frob L m (2, below_X L) (value_X L)) (value_X L)) (subst (λ p. Value L h p (product L h fin.points)) (sym splits) (value_sigma L fin.points))

    -- Berlekamp
    pub prime_rigid : (t : ℕ) (g : Series F) → Monic L t g → Prime K t g → Rigid K m t g
    prime_rigid zero g mo pr h b d = below_zero L b ∙ sym (C-zero L) ∙ ap C (sym (b 0 (omega arith)))
    prime_rigid (suc t) g mo pr h b d = product_constant mo pr h b fin.points (div_to K (factors h) d)

    pub berlekamp : (t : ℕ) (g : Series F) → Separable L t g → (Prime K t g → Rigid K m t g) × (Rigid K m t g → Prime K t g)
    berlekamp t g s = (prime_rigid t g s.monic, rigid_prime K m t g s)
