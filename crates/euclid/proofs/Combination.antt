-- Combinations u·P + v·Q of two polynomials, and how they change in a step of Euclid's algorithm. Assumes nothing.
use mathlib.Core.Path.{◌≡◌, refl, ap, ap₂, ◌∙◌}
use Rattle.algebra.proofs.Ring.{Ring, ring}
use Rattle.algebra.proofs.Series as S
use Rattle.algebra.proofs.Series.{Series, operations}
use Rattle.algebra.proofs.Poly.{Poly, poly_add, poly_mul_lem, poly_C}

module _ {F : Type 0} {𝟘 𝟙 : F} {◌⊕◌ ◌⊗◌ : F → F → F} (L : Ring 𝟘 𝟙 ◌⊕◌ ◌⊗◌) where
  open operations L use {◌⊞◌, ◌⊠◌, O, C, series}

  infixl 65 ◌⊞◌
  infixl 70 ◌⊠◌
  -- r = u·p + v·q
  pub record Combination (p q r : Series F) : Type 0 where
    pub u : Series F
    pub v : Series F
    pub poly_u : Poly L u
    pub poly_v : Poly L v
    pub eq : r ≡ u ⊠ p ⊞ v ⊠ q

  pub first : (p q : Series F) → Combination p q p
  unfolding S.O
  first p q = record { u = C 𝟙; v = O; poly_u = poly_C L 𝟙; poly_v = (0, λ i h. refl); eq = shape p q }
    where
      shape : (p q : Series F) → p ≡ C 𝟙 ⊠ p ⊞ O ⊠ q
      shape p q = let R = series in simp (ring, R)

  pub swap : {p q r : Series F} → Combination p q r → Combination q p r
  swap c = record { u = c.v; v = c.u; poly_u = c.poly_v; poly_v = c.poly_u; eq = c.eq ∙ series.add_comm _ _ }

  -- r + k·s
  pub add : {p q r s : Series F} (k : Series F) → Poly L k → Combination p q r → Combination p q s → Combination p q (r ⊞ k ⊠ s)
  add {p} {q} k h c d = record {
    u = c.u ⊞ k ⊠ d.u;
    v = c.v ⊞ k ⊠ d.v;
    poly_u = poly_add L c.poly_u (poly_mul_lem L h d.poly_u);
    poly_v = poly_add L c.poly_v (poly_mul_lem L h d.poly_v);
    eq = ap₂ (λ x y. x ⊞ k ⊠ y) c.eq d.eq ∙ shape c.u c.v d.u d.v k p q;
  }
    where
      shape : (a b c d k p q : Series F) → (a ⊠ p ⊞ b ⊠ q) ⊞ k ⊠ (c ⊠ p ⊞ d ⊠ q) ≡ (a ⊞ k ⊠ c) ⊠ p ⊞ (b ⊞ k ⊠ d) ⊠ q
      shape a b c d k p q = let R = series in simp (ring, R)

  -- the same with p + k·q for p
  pub change : {p q r : Series F} (k : Series F) → Poly L k → Combination p q r → Combination (p ⊞ k ⊠ q) q r
  change {p} {q} k h c = record {
    u = c.u;
    v = c.v ⊞ c.u ⊠ k;
    poly_u = c.poly_u;
    poly_v = poly_add L c.poly_v (poly_mul_lem L c.poly_u h);
    eq = c.eq ∙ shape c.u c.v k p q;
  }
    where
      shape : (a b k p q : Series F) → a ⊠ p ⊞ b ⊠ q ≡ a ⊠ (p ⊞ k ⊠ q) ⊞ (b ⊞ a ⊠ k) ⊠ q
      shape a b k p q = let R = series in simp (ring, R)

  -- q is a multiple of p
  pub record Multiple (p q : Series F) : Type 0 where
    pub factor : Series F
    pub poly_factor : Poly L factor
    pub eq : q ≡ factor ⊠ p

  -- a combination of p and 0 is a multiple of p
  pub with_zero : {p q r : Series F} → q ≡ O → Combination p q r → Multiple p r
  with_zero {p} e c = record {
    factor = c.u;
    poly_factor = c.poly_u;
    eq = c.eq ∙ ap (λ x. c.u ⊠ p ⊞ c.v ⊠ x) e ∙ shape c.u c.v p;
  }
    where
      shape : (u v p : Series F) → u ⊠ p ⊞ v ⊠ O ≡ u ⊠ p
      shape u v p = let R = series in simp (ring, R)

  -- a combination of multiples of d is one
  pub of_multiples : {d p q r : Series F} → Multiple d p → Multiple d q → Combination p q r → Multiple d r
  of_multiples {d} a b c = record {
    factor = c.u ⊠ a.factor ⊞ c.v ⊠ b.factor;
    poly_factor = poly_add L (poly_mul_lem L c.poly_u a.poly_factor) (poly_mul_lem L c.poly_v b.poly_factor);
    eq = c.eq ∙ ap₂ (λ x y. c.u ⊠ x ⊞ c.v ⊠ y) a.eq b.eq ∙ shape c.u c.v a.factor b.factor d;
  }
    where
      shape : (u v a b d : Series F) → u ⊠ (a ⊠ d) ⊞ v ⊠ (b ⊠ d) ≡ (u ⊠ a ⊞ v ⊠ b) ⊠ d
      shape u v a b d = let R = series in simp (ring, R)
