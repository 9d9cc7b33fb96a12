-- A monic polynomial g is separable, u·g + v·g' = 1, or a square of positive degree divides it, and not both, in a field of
-- characteristic 2 in which every element is a square. Assumes nothing.
use mathlib.Core.Path.{◌≡◌, refl, sym, ◌∙◌, ap, ap₂, fun_ext, subst}
use mathlib.Core.Logic.{◌⊎◌, inl, inr}
use Prim.Native.Nat.{ℕ, zero, suc, ◌+◌, ◌≤◌, ◌<◌}
use native.Mathlib.Omega.{arith}
use Rattle.algebra.proofs.Ring.{ring, add_cancel, add-pair, mul-zero, zero-add}
use Rattle.algebra.proofs.Identities.{square_factor, unit_factor, derive_square}
use Rattle.algebra.proofs.Field.{Field, is_zero, no_divisors}
use Rattle.algebra.proofs.Series as S
use Rattle.algebra.proofs.Series.{Series, operations, C-mul, X-suc, split}
use Rattle.algebra.proofs.Derivative.{D, D-mul}
use Rattle.algebra.proofs.Poly.{Below, Poly, below_tail, below_zero, below_C, below_D, poly_add, poly_mul_lem, poly_C, poly_D, Monic, monic_multiple}
use Rattle.algebra.proofs.Goppa.{Separable}
use Rattle.algebra.proofs.Euclid.{Degree, degree, monic-scaled, scaled_back, Gcd, euclid}

module _ (K : Field) where
  open K use {F, 𝟘, 𝟙, ◌⊕◌, ◌⊗◌, inv, laws as L, 𝟙≢𝟘 as one}
  open operations L use {◌⊞◌, ◌⊠◌, O, C, X, tail, series}

  infixl 65 ◌⊕◌
  infixl 70 ◌⊗◌
  infixl 65 ◌⊞◌
  infixl 70 ◌⊠◌
  -- a square that divides g
  pub record Square (g : Series F) : Type 0 where
    pub deg : ℕ
    pub root : Series F
    pub rest : Series F
    pub monic : Monic L (suc deg) root
    pub poly : Poly L rest
    pub eq : g ≡ (root ⊠ root) ⊠ rest

  -- no separable polynomial has a square factor
  pub squarefree : (t : ℕ) (g : Series F) → Separable L t g → Square g → ⊥
  unfolding S.O S.C
  squarefree t g s q = one (ap (λ p. p 0) (unit ∙ ap (λ x. q.root ⊠ x) zer ∙ mul-zero series _))
    where
      W : Series F
      W = q.root ⊠ (s.u ⊠ q.rest ⊞ s.v ⊠ D L q.rest)

      unit : C 𝟙 ≡ q.root ⊠ W
      unit = unit_factor series g (D L g) q.root q.rest (D L q.rest) s.u s.v s.bezout q.eq
          (ap (D L) q.eq ∙ D-mul L _ _ ∙ ap (λ x. x ⊠ q.rest ⊞ (q.root ⊠ q.root) ⊠ D L q.rest) (D-mul L _ _) ∙ derive_square series _ _ _ _)

      zer : W ≡ O
      zer = monic_multiple L W q.monic
          (poly_mul_lem L (suc (suc q.deg), q.monic.below) (poly_add L (poly_mul_lem L s.poly_u q.poly) (poly_mul_lem L s.poly_v (poly_D L q.poly))))
          (subst (Below L (suc q.deg)) unit (λ i h. below_C L 𝟙 i (omega arith)))

  domain : (a : F) → a ⊗ a ≡ 𝟘 → a ≡ 𝟘
  domain a e = elim (is_zero K a) [ yes z ↦ z | no n ↦ no_divisors K a a n e ]

  -- where every element is a square, a series with derivative 0 is one
  module _ (sqrt : F → F) (sqrt-mul : (a : F) → sqrt a ⊗ sqrt a ≡ a) where
    double : ℕ → ℕ
    double zero = 0
    double (suc n) = suc (suc (double n))

    half : Series F → Series F
    half g = λ i. sqrt (g (double i))

    square_step : (p : Series F) → p ⊠ p ≡ C (p 0 ⊗ p 0) ⊞ X ⊠ (X ⊠ (tail p ⊠ tail p))
    square_step p = ap₂ ◌⊠◌ (split L p) (split L p) ∙ shape (C (p 0)) X (tail p) ∙ ap (λ x. x ⊞ X ⊠ (X ⊠ (tail p ⊠ tail p))) (sym (C-mul L _ _))
      where
        shape : (c x q : Series F) → (c ⊞ x ⊠ q) ⊠ (c ⊞ x ⊠ q) ≡ c ⊠ c ⊞ x ⊠ (x ⊠ (q ⊠ q))
        shape c x q = let R = series in simp (ring, R)

    square_at : (p : Series F) (n : ℕ) → (p ⊠ p) (suc (suc n)) ≡ (tail p ⊠ tail p) n
    unfolding S.◌⊞◌ S.C
    square_at p n = ap (λ q. q (suc (suc n))) (square_step p) ∙ zero-add L _ ∙ X-suc L _ _ ∙ X-suc L _ _

    square_one : (p : Series F) → (p ⊠ p) 1 ≡ 𝟘
    unfolding S.◌⊠◌
    square_one p = ap (λ x. p 0 ⊗ p 1 ⊕ x) (L.mul_comm _ _) ∙ L.add_self _

    square_zero : (p : Series F) → (p ⊠ p) 0 ≡ p 0 ⊗ p 0
    unfolding S.◌⊠◌
    square_zero p = refl

    half_square : (n : ℕ) (g : Series F) → ((i : ℕ) → D L g i ≡ 𝟘) → (half g ⊠ half g) n ≡ g n
    unfolding half double S.tail D
    half_square zero g e = square_zero (half g) ∙ sqrt-mul (g 0)
    half_square (suc zero) g e = square_one (half g) ∙ sym (e 0)
    half_square (suc (suc n)) g e = square_at (half g) n ∙ half_square n (λ i. g (suc (suc i))) (λ i. sym (add-pair L (g (suc (suc (suc i)))) _) ∙ e (suc (suc i)))

    D-even : (k : ℕ) (p : Series F) → D L p (double k) ≡ p (suc (double k))
    unfolding double D
    D-even zero p = refl
    D-even (suc k) p = add-pair L _ _ ∙ D-even k (λ i. p (suc (suc i)))

    double_add : (k : ℕ) → double k ≡ k + k
    unfolding double
    double_add zero = refl
    double_add (suc k) = omega (arith, double_add k)

    parity : (t : ℕ) → (k : ℕ) × ((t ≡ double k) ⊎ (t ≡ suc (double k)))
    unfolding double
    parity zero = (0, inl refl)
    parity (suc t) = go (parity t)
      where
        go : (k : ℕ) × ((t ≡ double k) ⊎ (t ≡ suc (double k))) → (k : ℕ) × ((suc t ≡ double k) ⊎ (suc t ≡ suc (double k)))
        go r = elim r.1 [ inl e ↦ (r.0, inr (ap suc e)) | inr e ↦ (suc r.0, inl (ap suc e)) ]

    root_zero : sqrt 𝟘 ≡ 𝟘
    root_zero = domain (sqrt 𝟘) (sqrt-mul 𝟘)

    root_one : sqrt 𝟙 ≡ 𝟙
    root_one = add_cancel L _ _ (domain (sqrt 𝟙 ⊕ 𝟙) (spread (sqrt 𝟙) ∙ ap (λ x. x ⊕ 𝟙) (sqrt-mul 𝟙) ∙ L.add_self 𝟙))
      where
        spread : (a : F) → (a ⊕ 𝟙) ⊗ (a ⊕ 𝟙) ≡ a ⊗ a ⊕ 𝟙
        spread a = simp (ring, L)

    -- a monic polynomial of positive degree with derivative 0 is a square
    derivative-zero : (t : ℕ) (g : Series F) → Monic L (suc t) g → D L g ≡ O → Square g
    unfolding half S.O
    derivative-zero t g m e = go (parity (suc t)).0 (parity (suc t)).1
      where
        at : (i : ℕ) → D L g i ≡ 𝟘
        at i = ap (λ p. p i) e

        go : (k : ℕ) → (suc t ≡ double k) ⊎ (suc t ≡ suc (double k)) → Square g
        go k (inr o) = absurd (one (sym m.lead ∙ ap g o ∙ sym (D-even k g) ∙ at (double k)))
        go zero (inl o) = absurd (omega (arith, double_add 0))
        go (suc k) (inl o) = record {
          deg = k;
          root = half g;
          rest = C 𝟙;
          monic = record {
            below = λ i h. ap sqrt (m.below (double i) (omega (arith, double_add i, double_add (suc k)))) ∙ root_zero;
            lead = ap sqrt (ap g (sym o) ∙ m.lead) ∙ root_one;
          };
          poly = poly_C L 𝟙;
          eq = sym (series.mul-one _ ∙ fun_ext (λ n. half_square n g at));
        }

    constant : (g : Series F) → Monic L 0 g → g ≡ C 𝟙
    constant g m = split L g ∙ ap₂ (λ x y. C x ⊞ X ⊠ y) m.lead (below_zero L (below_tail L m.below)) ∙ (let R = series in simp (ring, R))

    module _ (t : ℕ) (g : Series F) (m : Monic L (suc t) g) (r : Degree K (suc t) (D L g)) (G : Gcd K r.deg g (C (inv (D L g r.deg)) ⊠ D L g)) where
      separable : G.gcd ≡ C 𝟙 → Separable L (suc t) g
      separable e = record {
        monic = m;
        u = G.u;
        v = G.v ⊠ C (inv (D L g r.deg));
        poly_u = G.poly_u;
        poly_v = poly_mul_lem L G.poly_v (poly_C L _);
        bezout = ap (λ x. G.u ⊠ g ⊞ x) (series.mul_assoc _ _ _) ∙ sym G.bezout ∙ e;
      }

      by_gcd : (k : ℕ) → Separable L (suc k) G.gcd → Monic L (suc k) G.gcd → Square g
      by_gcd k s mk = record {
        deg = k;
        root = G.gcd;
        rest = G.a ⊠ s.u ⊞ s.v ⊠ (C (D L g r.deg) ⊠ G.b ⊞ D L G.a);
        monic = mk;
        poly = poly_add L (poly_mul_lem L G.poly_a s.poly_u) (poly_mul_lem L s.poly_v (poly_add L (poly_mul_lem L (poly_C L _) G.poly_b) (poly_D L G.poly_a)));
        eq = square_factor series g (D L g) G.gcd (D L G.gcd) G.a (D L G.a) (C (D L g r.deg) ⊠ G.b) s.u s.v G.left
            (scaled_back K r ∙ ap (λ x. C (D L g r.deg) ⊠ x) G.right ∙ sym (series.mul_assoc _ _ _))
            (ap (D L) G.left ∙ D-mul L _ _) s.bezout;
      }

      by_square : Square G.gcd → Square g
      by_square q = record {
        deg = q.deg;
        root = q.root;
        rest = G.a ⊠ q.rest;
        monic = q.monic;
        poly = poly_mul_lem L G.poly_a q.poly;
        eq = G.left ∙ ap (λ x. G.a ⊠ x) q.eq ∙ shape G.a (q.root ⊠ q.root) q.rest;
      }
        where
          shape : (a b c : Series F) → a ⊠ (b ⊠ c) ≡ b ⊠ (a ⊠ c)
          shape a b c = let R = series in simp (ring, R)

      choose : ((k : ℕ) → k ≤ t → (e : Series F) → Monic L k e → Separable L k e ⊎ Square e) → (k : ℕ) → G.deg ≡ k → Separable L (suc t) g ⊎ Square g
      choose ih zero e = inl (separable (constant G.gcd (subst (λ k. Monic L k G.gcd) e G.monic)))
      choose ih (suc k) e =
          let mk = subst (λ k. Monic L k G.gcd) e G.monic in
          elim (ih (suc k) (omega arith) G.gcd mk) [ inl s ↦ inr (by_gcd k s mk) | inr q ↦ inr (by_square q) ]

    constant_separable : (g : Series F) → Monic L 0 g → Separable L 0 g
    unfolding S.O
    constant_separable g m = record {
      monic = m;
      u = C 𝟙;
      v = O;
      poly_u = poly_C L 𝟙;
      poly_v = (0, λ i h. refl);
      bezout = unit g (D L g) ∙ constant g m;
    }
      where
        unit : (p q : Series F) → C 𝟙 ⊠ p ⊞ O ⊠ q ≡ p
        unit p q = let R = series in simp (ring, R)

    -- separable, or with a square factor, by induction on a bound N of the degree
    pub separable? : (N t : ℕ) → t < N → (g : Series F) → Monic L t g → Separable L t g ⊎ Square g
    separable? zero t k g m = absurd (omega arith)
    separable? (suc N) zero k g m = inl (constant_separable g m)
    separable? (suc N) (suc t) k g m = go (λ j l e me. separable? N j (omega arith) e me) (degree K (suc t) (D L g) (below_D L (suc t) g m.below))
      where
        go : ((j : ℕ) → j ≤ t → (e : Series F) → Monic L j e → Separable L j e ⊎ Square e) → (D L g ≡ O) ⊎ Degree K (suc t) (D L g) → Separable L (suc t) g ⊎ Square g
        go ih (inl e) = inr (derivative-zero t g m e)
        go ih (inr r) =
            let G = euclid K r.deg g (C (inv (D L g r.deg)) ⊠ D L g) (suc (suc t), m.below) (monic-scaled K r) in
            choose t g m r G ih G.deg refl

    -- the square-free criterion; the other way round is `squarefree`
    pub separable_of : (t : ℕ) (g : Series F) → Monic L t g → ¬ Square g → Separable L t g
    separable_of t g m n = elim (separable? (suc t) t (omega arith) g m) [ inl s ↦ s | inr q ↦ absurd (n q) ]
