-- 'g has a proper factor', a search over lists, is that g's polynomial is not prime; and a g without a proper factor is separable.
-- Assumes nothing.
use mathlib.Core.Path.{◌≡◌, refl, sym, ap, ap₂, ◌∙◌, subst}
use mathlib.Core.Bool.{Bool, true, false, false≢true}
use mathlib.Core.List.{List}
use Prim.Native.Nat.{ℕ, zero, suc, ◌+◌, ◌-◌, ◌^◌, ◌<◌}
use native.Mathlib.Numerals.{add-one}
use native.Mathlib.Omega.{arith}
use lib.Pow.{pow_pos}
use lib.ListN.{length}
use Rattle.algebra.proofs.Ring.{ring}
use Rattle.algebra.proofs.Series.{Series, operations}
use Rattle.algebra.proofs.Poly.{Poly, Monic, poly_mul_lem, poly_C, monic-mul}
use Rattle.algebra.proofs.Euclid.{Degree, monic-scaled, scaled_back}
use Rattle.algebra.proofs.Goppa.{Separable}
use Rattle.field.proofs.Table.{Width}
use Rattle.field.proofs.Gf.{Elem, inverse, gf, laws, one_not_zero}
use Rattle.field.proofs.Arrays.{Elements, poly, array, length-array, array-elements, poly_below, poly_inj}
use Rattle.poly.specs.Polynomials.{same, monic, product, some_list, has_square}
use Rattle.poly.proofs.Laws.{same_eq, eq_same, length-product}
use Rattle.poly.proofs.Product.{length-monic, monic-elements, product-elements, poly_monic, monic_poly, product_poly}
use Rattle.poly.proofs.SquareSearch.{some_below_lem, below_some, some_list_lem, list_some, monic-quotient, has_square_square, has_square_separable}
use Rattle.algebra.proofs.Factor.{div, Prime}
use Rattle.factors.specs.Factors.{has_factor}

module _ (m : ℕ) (W : Width m) (g : List ℕ) (E : Elements m g) where
  open operations (laws m W) use {◌⊠◌, C, series}

  infixl 70 ◌⊠◌
  abbrev G : Series (Elem m)
  G = poly m (monic g)

  factored_poly : (q r : List ℕ) → poly m (product m (monic q) (monic r)) ≡ poly m (monic q) ⊠ poly m (monic r)
  factored_poly q r = product_poly m W (monic q) (monic r) (omega (arith, length-monic q)) (omega (arith, length-monic r))

  -- a factor of degree d + 1 is found
  found : (d : ℕ) (p b : Series (Elem m)) → suc d < length g → Monic (laws m W) (suc d) p → Poly (laws m W) b → G ≡ p ⊠ b → has_factor m g ≡ true
  unfolding has_factor
  found d p b lt mo pb eq =
      let n = suc d in
      let R = monic-quotient (gf m W) (length g) n G p b (poly_monic m W g) mo pb eq in
      let q = array m n p in
      let r = array m R.deg b in
      let lq : length q ≡ n = length-array m n p in
      let lr : length r ≡ R.deg = length-array m R.deg b in
      let all : product m (monic q) (monic r) ≡ monic g =
      poly_inj m (product m (monic q) (monic r)) (monic g)
      (omega (arith, length-product m (monic q) (monic r), length-monic q, length-monic r, length-monic g, R.sum))
      (product-elements m _ _) (monic-elements m W g E)
      (factored_poly q r ∙ ap₂ ◌⊠◌ (monic_poly m W n p mo) (monic_poly m W R.deg b R.monic) ∙ sym eq) in
      below_some _ _ d (omega arith)
      (subst (λ k. some_list (2 ^ m) k (λ q. some_list (2 ^ m) (length g - (d + 1)) (λ r. same (product m (monic q) (monic r)) (monic g))) ≡ true) (lq ∙ sym (add-one d))
      (list_some (2 ^ m) _ q (array-elements m n p)
      (let k : length r ≡ length g - (d + 1) = omega (arith, R.sum) in
      subst (λ k. some_list (2 ^ m) k (λ r. same (product m (monic q) (monic r)) (monic g)) ≡ true) k
      (list_some (2 ^ m) _ r (array-elements m R.deg b) (ap (λ l. same l (monic g)) all ∙ eq_same (monic g) (monic g) refl)))))

  -- no proper factor: prime
  pub has_factor_prime : has_factor m g ≡ false → Prime (gf m W) (length g) G
  has_factor_prime e n p pos lt b nz d = go n refl
    where
      shape : (c q k : Series (Elem m)) → (c ⊠ q) ⊠ k ≡ q ⊠ (c ⊠ k)
      shape c q k = let R = series in simp (ring, R)

      go : (k : ℕ) → n ≡ k → ⊥
      go zero z = omega arith
      go (suc k) z =
          let D : Degree (gf m W) (suc n) p = record { deg = n; small = omega arith; below = b; nonzero = nz } in
          let q : Series (Elem m) = C (inverse m (p n)) ⊠ p in
          false≢true (sym e ∙ found k q (C (p n) ⊠ d.quot) (omega arith) (subst (λ i. Monic (laws m W) i q) z (monic-scaled (gf m W) D))
          (poly_mul_lem (laws m W) (poly_C (laws m W) _) d.poly) (d.eq ∙ ap (λ x. x ⊠ d.quot) (scaled_back (gf m W) D) ∙ shape (C (p n)) q d.quot))

  -- a prime has no proper factor
  pub prime_has_factor : Prime (gf m W) (length g) G → has_factor m g ≡ false
  unfolding has_factor
  prime_has_factor pr = go (has_factor m g) refl
    where
      go : (b : Bool) → has_factor m g ≡ b → has_factor m g ≡ false
      go false e = e
      go true e =
          let d = some_below_lem _ _ e in
          let q = some_list_lem _ _ _ (pow_pos m) d.passes in
          let r = some_list_lem _ _ _ (pow_pos m) q.passes in
          let mo = poly_monic m W q.list in
          absurd (pr (length q.list) (poly m (monic q.list)) (omega (arith, q.size)) (omega (arith, q.size, d.below)) mo.below (λ z. one_not_zero m W (sym mo.lead ∙ z))
          (div (gf m W) (poly m (monic r.list)) (length (monic r.list), poly_below m W (monic r.list))
          (ap (poly m) (sym (same_eq _ _ r.passes)) ∙ factored_poly q.list r.list)))

  -- where a square divides g, so does its root
  pub square_factor : has_square m g ≡ true → has_factor m g ≡ true
  square_factor e =
      let s = has_square_square m W g E e in
      let n = suc s.deg in
      let R = monic-quotient (gf m W) (length g) (n + n) G (s.root ⊠ s.root) s.rest (poly_monic m W g) (monic-mul (laws m W) s.monic s.monic) s.poly s.eq in
      found s.deg s.root (s.root ⊠ s.rest) (omega (arith, R.sum)) s.monic
      (poly_mul_lem (laws m W) (suc n, s.monic.below) s.poly) (s.eq ∙ series.mul_assoc _ _ _)

  -- demand 3 asks for keys whose g is separable: an irreducible one is
  pub irreducible_square : has_factor m g ≡ false → has_square m g ≡ false
  irreducible_square e = go (has_square m g) refl
    where
      go : (b : Bool) → has_square m g ≡ b → has_square m g ≡ false
      go true f = absurd (false≢true (sym e ∙ square_factor f))
      go false f = f

  pub irreducible_separable : has_factor m g ≡ false → Separable (laws m W) (length g) G
  irreducible_separable e = has_square_separable m W g E (irreducible_square e)
