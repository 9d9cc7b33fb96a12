-- Request L5, 'Exchange keys': 'g has a proper factor'. Assumes nothing.
use Rattle.std.specs.Prelude.{ℕ, ◌+◌, ◌-◌, ◌^◌, Bool, List, length}
use Rattle.poly.specs.Polynomials.{same, monic, product, some_below, some_list}

-- g of degree t, given by its lower coefficients, has a proper factor: q·r = g for a monic q of degree 1 to t - 1 and a monic r
unfoldable pub has_factor : ℕ → List ℕ → Bool
has_factor m g =
    some_below (length g - 1) (λ d. some_list (2 ^ m) (d + 1) (λ q. some_list (2 ^ m) (length g - (d + 1)) (λ r.
    same (product m (monic q) (monic r)) (monic g))))
