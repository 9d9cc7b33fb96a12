-- What the test answers, by its conditions. Assumes nothing.
use mathlib.Core.Path.{◌≡◌, refl, sym, ap, ◌∙◌}
use mathlib.Core.Bool.{Bool, true, false, not}
use mathlib.Core.List.{List}
use Prim.Native.Nat.{ℕ, ◌≤◌, ◌<◌}
use native.Mathlib.Omega.{arith}
use borrow.Author.Tests.{le-leb, lt-leb}
use lib.ListN.{length}
use Rattle.bits.specs.Bits.{every}
use Rattle.field.specs.Field.{is_width, is_element}
use Rattle.field.proofs.Table.{Width, by_width}
use Rattle.field.proofs.Gf.{gf}
use Rattle.field.proofs.Arrays.{Elements, poly, every-elements}
use Rattle.poly.specs.Polynomials.{monic, some_below, has_square}
use Rattle.euclid.specs.Euclid.{square_test}
use Rattle.euclid.proofs.Answers.{square_in_bounds}
use Rattle.algebra.proofs.Factor.{Prime}
use Rattle.factors.specs.Factors.{has_factor}
use Rattle.factors.proofs.FactorSearch.{has_factor_prime, prime_has_factor, square_factor}
use Rattle.irreducible.specs.Answers.{factor_test}

-- decided by whether g is prime
pub factor_decided : (m : ℕ) (w : Width m) (g : List ℕ) → Elements m g → (b : Bool) → (b ≡ true → Prime (gf m w) (length g) (poly m (monic g)))
    → (b ≡ false → ¬ Prime (gf m w) (length g) (poly m (monic g))) → not b ≡ has_factor m g
factor_decided m w g E true y n = sym (prime_has_factor m w g E (y refl))
factor_decided m w g E false y n = sym (found (has_factor m g) refl)
  where
    found : (b : Bool) → has_factor m g ≡ b → has_factor m g ≡ true
    found true f = f
    found false f = absurd (n refl (has_factor_prime m w g E f))

below_none : (k : ℕ) (p : ℕ → Bool) → k ≡ 0 → some_below k p ≡ false
unfolding some_below
below_none k p e = ap (λ (n : ℕ). some_below n p) e

module _ (m : ℕ) (g : List ℕ) where
  -- degree 1
  pub factor_linear : length g ≡ 1 → has_factor m g ≡ false
  unfolding has_factor
  factor_linear e = below_none _ _ (omega arith)

  pub factor_no_width : is_width m ≡ false → factor_test m g ≡ false
  unfolding factor_test
  factor_no_width n = rw n

  pub factor_too_long : 128 < length g → factor_test m g ≡ false
  unfolding factor_test
  factor_too_long h = by_width m (λ w. rw (w, lt-leb (length g) 128 h)) factor_no_width

  module _ (w : Width m) (h : length g ≤ 128) where
    pub factor_no_element : every (is_element m) g ≡ false → factor_test m g ≡ false
    unfolding factor_test
    factor_no_element e = rw (w, le-leb (length g) 128 h, e)

    module _ (e : every (is_element m) g ≡ true) where
      pub factor_in_bounds : factor_test m g ≡ has_factor m g
      unfolding factor_test
      factor_in_bounds = rw (w, le-leb (length g) 128 h, e)

      -- the constant 1
      pub factor_empty : length g ≡ 0 → factor_test m g ≡ false
      unfolding has_factor
      factor_empty z = factor_in_bounds ∙ below_none _ _ (omega arith)

      pub square_none : square_test m g ≡ false → has_square m g ≡ false
      square_none s = sym (square_in_bounds m g w h e) ∙ s

      pub factor_square : square_test m g ≡ true → factor_test m g ≡ true
      factor_square s = factor_in_bounds ∙ square_factor m w g (every-elements m g e) (sym (square_in_bounds m g w h e) ∙ s)
