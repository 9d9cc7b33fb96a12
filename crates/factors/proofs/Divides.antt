-- The search for a proper factor finds one exactly where some polynomial of degree 1 to t - 1, monic or not, divides g.
-- Assumes nothing.
use mathlib.Core.Path.{◌≡◌, refl, sym, ap, ◌∙◌}
use mathlib.Core.Logic.{◌↔◌}
use mathlib.Core.Bool.{Bool, true, false}
use mathlib.Core.List.{List}
use Prim.Native.Nat.{ℕ, suc, ◌-◌, ◌≤◌, ◌<◌}
use native.Mathlib.Omega.{arith}
use lib.Pow.{pow_pos}
use lib.ListN.{length, get_or}
use Rattle.algebra.proofs.Factor.{div}
use Rattle.field.proofs.Table.{Width}
use Rattle.field.proofs.Gf.{gf, val_inj, val-zero}
use Rattle.field.proofs.Arrays.{Elements, every-elements, elements-every, poly, poly_below}
use Rattle.poly.specs.Polynomials.{monic, some_below}
use Rattle.poly.proofs.Laws.{same_eq, length-product}
use Rattle.poly.proofs.Product.{length-monic, monic_lead, monic-elements, product_poly}
use Rattle.poly.proofs.SquareSearch.{some_below_lem, some_list_lem}
use Rattle.factors.specs.Factors.{has_factor}
use Rattle.factors.specs.Divides.{ProperFactor}
use Rattle.factors.proofs.FactorSearch.{has_factor_prime}

module _ (m : ℕ) (W : Width m) where
  -- the factor that the search finds is monic
  pub factor_divides : (g : List ℕ) → has_factor m g ≡ true → (q : List ℕ) × (r : List ℕ) × ProperFactor m g q r
  unfolding has_factor
  factor_divides g e =
      let d = some_below_lem _ _ e in
      let q = some_list_lem _ _ _ (pow_pos m) d.passes in
      let r = some_list_lem _ _ _ (pow_pos m) q.passes in
      let lq : length (monic q.list) ≡ suc (length q.list) = length-monic q.list in
      let last : length (monic q.list) - 1 ≡ length q.list = omega arith in (
        monic q.list,
        monic r.list,
        record {
          elements = (elements-every m _ (monic-elements m W q.list q.below), elements-every m _ (monic-elements m W r.list r.below));
          some = omega (arith, q.size);
          proper = omega (arith, q.size, d.below);
          lead = λ z. one_zero (sym (ap (λ (i : ℕ). get_or (monic q.list) i 0) last ∙ monic_lead q.list) ∙ z);
          divides = same_eq _ _ r.passes;
        },
      )
    where
      one_zero : ◌≡◌ {A = ℕ} 1 0 → ⊥
      one_zero e = omega arith

  module _ (g : List ℕ) (E : Elements m g) where
    pub divides_factor : (q r : List ℕ) → ProperFactor m g q r → has_factor m g ≡ true
    divides_factor q r p = go (has_factor m g) refl
      where
        some_r : 0 < length r
        some_r = omega (arith, p.proper, length-product m q r, ap length p.divides, length-monic g)

        go : (b : Bool) → has_factor m g ≡ b → has_factor m g ≡ true
        go true e = e
        go false e =
            absurd (has_factor_prime m W g E e (length q - 1) (poly m q) (omega (arith, p.some)) (omega (arith, p.some, p.proper))
            (λ i h. poly_below m W q i (omega arith)) (λ z. p.lead (val_inj m (every-elements m q p.elements.0 _) (pow_pos m) (z ∙ sym (val-zero m))))
            (div (gf m W) (poly m r) (length r, poly_below m W r) (ap (poly m) (sym p.divides) ∙ product_poly m W q r (omega (arith, p.some)) some_r)))

    -- exactly where
    pub factor_exactly : (has_factor m g ≡ true) ↔ ((q : List ℕ) × (r : List ℕ) × ProperFactor m g q r)
    factor_exactly = (factor_divides g, λ p. divides_factor p.0 p.1 p.2)

-- a g of degree 0 or 1 has none
none_below : (n : ℕ) (p : ℕ → Bool) → n ≡ 0 → some_below n p ≡ false
unfolding some_below
none_below n p e = ap (λ (i : ℕ). some_below i p) e

pub factor_degree_one : (m : ℕ) (g : List ℕ) → length g ≤ 1 → has_factor m g ≡ false
unfolding has_factor
factor_degree_one m g h = none_below _ _ (omega arith)
