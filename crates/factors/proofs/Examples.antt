-- 'g has a proper factor' at width 4, by computation; for degree 4, where the search is long, by two factors. Assumes nothing.
use Prim.Native.Nat.{ℕ}
use native.Mathlib.Omega.{arith}
use mathlib.Core.Path.{◌≡◌, refl}
use mathlib.Core.Bool.{Bool, true, false}
use mathlib.Core.List.{List, [], ◌∷◌, map}
use Rattle.bits.specs.Xor.{◌⊕◌}
use Rattle.bits.specs.Bits.{from, every}
use Rattle.field.specs.Field.{is_width, is_element, modulus_of, poly_mul, reduced, mul_mod, mul}
use Rattle.field.proofs.Arrays.{every-elements}
use Rattle.poly.specs.Polynomials.{sum, same, monic, product, some_below, some_list}
use Rattle.factors.specs.Factors.{has_factor}
use Rattle.factors.specs.Divides.{ProperFactor}
use Rattle.factors.proofs.Divides.{divides_factor}

-- g by its lower coefficients, and whether it has a proper factor
unfoldable pub examples : List (List ℕ × Bool)
examples =
    -- of degree 0 and 1
    ([], false) ∷
    (0 ∷ [], false) ∷
    (13 ∷ [], false) ∷
    -- x² + x + 8; x² + 2x + 1; (x + 4)·(x + 15); x²
    (8 ∷ 1 ∷ [], false) ∷
    (1 ∷ 2 ∷ [], false) ∷
    (9 ∷ 11 ∷ [], true) ∷
    (0 ∷ 0 ∷ [], true) ∷
    -- (x + 15)·(x² + x + 8)
    (1 ∷ 7 ∷ 14 ∷ [], true) ∷ []

pub examples_hold : map (λ r. has_factor 4 r.0) examples ≡ map (λ r. r.1) examples
unfolding ◌⊕◌ from is_width modulus_of poly_mul reduced mul_mod mul sum same monic product some_below some_list has_factor examples
examples_hold = refl

-- (x² + x + 8)·(x² + 2x + 1), of two polynomials without factors
quadratic_divides : ProperFactor 4 (8 ∷ 2 ∷ 11 ∷ 3 ∷ []) (8 ∷ 1 ∷ 1 ∷ []) (1 ∷ 2 ∷ 1 ∷ [])
unfolding ◌⊕◌ from every is_width is_element modulus_of poly_mul reduced mul_mod mul sum monic product
quadratic_divides = record { elements = (refl, refl); some = omega arith; proper = omega arith; lead = λ z. omega arith; divides = refl }

pub quartic_factor : has_factor 4 (8 ∷ 2 ∷ 11 ∷ 3 ∷ []) ≡ true
unfolding every is_element is_width
quartic_factor = divides_factor 4 refl _ (every-elements 4 (8 ∷ 2 ∷ 11 ∷ 3 ∷ []) refl) _ _ quadratic_divides
