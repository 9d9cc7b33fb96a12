-- Division with remainder by a monic polynomial, and Euclid's algorithm with Bézout's equation. Assumes nothing.
use mathlib.Core.Path.{◌≡◌, refl, sym, ◌∙◌, ap, ap₂}
use mathlib.Core.Logic.{◌⊎◌, inl, inr}
use Prim.Native.Nat.{ℕ, zero, suc, ◌≤◌, ◌<◌}
use native.Mathlib.Nat.{eq-or-lt_of_le}
use native.Mathlib.Omega.{arith}
use Rattle.algebra.proofs.Ring.{ring, one-mul, add-zero}
use Rattle.algebra.proofs.Identities.{division_step, euclid_bezout, euclid_divides}
use Rattle.algebra.proofs.Field.{Field, inv-mul, is_zero}
use Rattle.algebra.proofs.Series as S
use Rattle.algebra.proofs.Series.{Series, operations, C-at, X-suc, C-mul, split}
use Rattle.algebra.proofs.Poly.{Below, Poly, below_tail, below_zero, below_add, below_scale, below_C, below_X, poly_add, poly_mul_lem, poly_C, Monic}

module _ (K : Field) where
  open K use {F, 𝟘, 𝟙, ◌⊕◌, ◌⊗◌, inv, laws as L}
  open operations L use {◌⊞◌, ◌⊠◌, O, C, X, tail, series}

  infixl 65 ◌⊕◌
  infixl 70 ◌⊗◌
  infixl 65 ◌⊞◌
  infixl 70 ◌⊠◌
  -- division with remainder by a monic polynomial
  pub reduce : (n : ℕ) (s d : Series F) → Below L (suc n) s → Monic L n d → Below L n (s ⊞ C (s n) ⊠ d)
  unfolding S.◌⊞◌
  reduce n s d b m i l = elim (eq-or-lt_of_le l) [ inl e ↦ ap (s ⊞ C (s n) ⊠ d) (sym e) ∙ at | inr g ↦ ap₂ ◌⊕◌ (b i g) (C-at L (s n) d i ∙ ap (λ x. s n ⊗ x) (m.below i g)) ∙ simp (ring, L) ]
    where
      at : s n ⊕ (C (s n) ⊠ d) n ≡ 𝟘
      at = ap (λ x. s n ⊕ x) (C-at L (s n) d n ∙ ap (λ x. s n ⊗ x) m.lead ∙ L.mul-one _) ∙ L.add_self _

  below_X_mul : (n : ℕ) (r : Series F) → Below L n r → Below L (suc n) (X ⊠ r)
  below_X_mul n r b zero h = absurd (omega arith)
  below_X_mul n r b (suc i) h = X-suc L r i ∙ b i (omega arith)

  pub record Division (n : ℕ) (p d : Series F) : Type 0 where
    pub quot : Series F
    pub rem : Series F
    pub poly : Poly L quot
    pub below : Below L n rem
    pub eq : p ≡ quot ⊠ d ⊞ rem

  pub divide : (m n : ℕ) (p d : Series F) → Below L m p → Monic L n d → Division n p d
  unfolding S.O
  divide zero n p d b m = record { quot = O; rem = O; poly = (0, λ i h. refl); below = λ i h. refl; eq = below_zero L b ∙ nothing }
    where
      nothing : O ≡ O ⊠ d ⊞ O
      nothing = let R = series in simp (ring, R)
  divide (suc m) n p d b mo = go (divide m n (tail p) d (below_tail L b) mo)
    where
      go : Division n (tail p) d → Division n p d
      go v =
          let s = X ⊠ v.rem ⊞ C (p 0) in
          record {
            quot = X ⊠ v.quot ⊞ C (s n);
            rem = s ⊞ C (s n) ⊠ d;
            poly = poly_add L (poly_mul_lem L (2, below_X L) v.poly) (poly_C L (s n));
            below = reduce n s d (below_add L (below_X_mul n v.rem v.below) (λ i h. below_C L (p 0) i (omega arith))) mo;
            eq = split L p ∙ ap (λ x. C (p 0) ⊞ X ⊠ x) v.eq ∙ division_step series (C (p 0)) X v.quot d v.rem (C (s n));
          }

  -- the degree
  pub record Degree (n : ℕ) (p : Series F) : Type 0 where
    pub deg : ℕ
    pub small : deg < n
    pub below : Below L (suc deg) p
    pub nonzero : ¬ (p deg ≡ 𝟘)

  pub degree : (n : ℕ) (p : Series F) → Below L n p → (p ≡ O) ⊎ Degree n p
  degree zero p b = inl (below_zero L b)
  degree (suc n) p b = elim (is_zero K (p n)) [
    | yes e ↦ up (degree n p (λ i l. elim (eq-or-lt_of_le l) [ inl q ↦ ap p (sym q) ∙ e | inr g ↦ b i g ]))
    | no e ↦ inr (record { deg = n; small = omega arith; below = b; nonzero = e })
  ]
    where
      up : (p ≡ O) ⊎ Degree n p → (p ≡ O) ⊎ Degree (suc n) p
      up (inl e) = inl e
      up (inr d) = inr (record { deg = d.deg; small = omega arith; below = d.below; nonzero = d.nonzero })

  pub monic-scaled : {n : ℕ} {p : Series F} (d : Degree n p) → Monic L d.deg (C (inv (p d.deg)) ⊠ p)
  monic-scaled {p = p} d = record { below = below_scale L _ d.below; lead = C-at L _ p d.deg ∙ inv-mul K _ d.nonzero }

  pub scaled_back : {n : ℕ} {p : Series F} (d : Degree n p) → p ≡ C (p d.deg) ⊠ (C (inv (p d.deg)) ⊠ p)
  scaled_back {p = p} d = sym (sym (series.mul_assoc _ _ _) ∙ ap (λ x. x ⊠ p) (sym (C-mul L _ _) ∙ ap C (L.mul_comm _ _ ∙ inv-mul K _ d.nonzero)) ∙ one-mul series p)

  -- the greatest common divisor
  pub record Gcd (n : ℕ) (p d : Series F) : Type 0 where
    pub deg : ℕ
    pub small : deg ≤ n
    pub gcd : Series F
    pub monic : Monic L deg gcd
    pub u : Series F
    pub v : Series F
    pub a : Series F
    pub b : Series F
    pub poly_u : Poly L u
    pub poly_v : Poly L v
    pub poly_a : Poly L a
    pub poly_b : Poly L b
    pub bezout : gcd ≡ u ⊠ p ⊞ v ⊠ d
    pub left : p ≡ a ⊠ gcd
    pub right : d ≡ b ⊠ gcd

  module _ (n : ℕ) (p d : Series F) (m : Monic L n d) (q : Division n p d) where
    done : q.rem ≡ O → Gcd n p d
    unfolding S.O
    done e = record {
      deg = n;
      small = omega arith;
      gcd = d;
      monic = m;
      u = O;
      v = C 𝟙;
      a = q.quot;
      b = C 𝟙;
      poly_u = (0, λ i h. refl);
      poly_v = poly_C L 𝟙;
      poly_a = q.poly;
      poly_b = poly_C L 𝟙;
      bezout = trivial;
      left = q.eq ∙ ap (λ x. q.quot ⊠ d ⊞ x) e ∙ add-zero series _;
      right = sym (one-mul series d);
    }
      where
        trivial : d ≡ O ⊠ p ⊞ C 𝟙 ⊠ d
        trivial = let R = series in simp (ring, R)

    onward : (r : Degree n q.rem) → Gcd r.deg d (C (inv (q.rem r.deg)) ⊠ q.rem) → Gcd n p d
    onward r g =
        let c = q.rem r.deg in
        record {
          deg = g.deg;
          small = omega arith;
          gcd = g.gcd;
          monic = g.monic;
          u = g.v ⊠ C (inv c);
          v = g.u ⊞ g.v ⊠ (C (inv c) ⊠ q.quot);
          a = q.quot ⊠ g.a ⊞ C c ⊠ g.b;
          b = g.a;
          poly_u = poly_mul_lem L g.poly_v (poly_C L _);
          poly_v = poly_add L g.poly_u (poly_mul_lem L g.poly_v (poly_mul_lem L (poly_C L _) q.poly));
          poly_a = poly_add L (poly_mul_lem L q.poly g.poly_a) (poly_mul_lem L (poly_C L _) g.poly_b);
          poly_b = g.poly_a;
          bezout = euclid_bezout series p q.quot d q.rem _ (C (inv c)) g.u g.v g.gcd q.eq refl g.bezout;
          left = euclid_divides series p q.quot d q.rem _ (C c) g.a g.b g.gcd q.eq (scaled_back r) g.left g.right;
          right = g.left;
        }

  euclid_within : (N n : ℕ) → n < N → (p d : Series F) → Poly L p → Monic L n d → Gcd n p d
  euclid_within zero n k p d pp m = absurd (omega arith)
  euclid_within (suc N) n k p d pp m = go (λ r. euclid_within N r.deg (less r) d _ (suc n, m.below) (monic-scaled r)) (degree n q.rem q.below)
    where
      q : Division n p d
      q = divide pp.0 n p d pp.1 m

      less : (r : Degree n q.rem) → r.deg < N
      less r = omega arith

      go : ((r : Degree n q.rem) → Gcd r.deg d (C (inv (q.rem r.deg)) ⊠ q.rem)) → (q.rem ≡ O) ⊎ Degree n q.rem → Gcd n p d
      go ih (inl e) = done n p d m q e
      go ih (inr r) = onward n p d m q r (ih r)

  pub euclid : (n : ℕ) (p d : Series F) → Poly L p → Monic L n d → Gcd n p d
  euclid n p d = euclid_within (suc n) n (omega arith) p d
