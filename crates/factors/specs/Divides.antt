-- 'g has a proper factor' without a search: two polynomials over GF(2^m), monic or not, whose product is g. Assumes nothing.
use Rattle.std.specs.Prelude.{ℕ, ◌-◌, ◌≤◌, ◌≡◌, true, List, length, get_or}
use Rattle.bits.specs.Bits.{every}
use Rattle.field.specs.Field.{is_element}
use Rattle.poly.specs.Polynomials.{monic, product}

-- q·r = g, of degree t and given by its lower coefficients, with q of degree 1 to t - 1: its last coefficient is not 0
pub record ProperFactor (m : ℕ) (g q r : List ℕ) : Type 0 where
  pub elements : (every (is_element m) q ≡ true) × (every (is_element m) r ≡ true)
  pub some : 2 ≤ length q
  pub proper : length q ≤ length g
  pub lead : get_or q (length q - 1) 0 ≡ 0 → ⊥
  pub divides : product m q r ≡ monic g
