-- Polynomials over GF(2^m) as lists of coefficients, the lowest first, and 'a square divides g'. Assumes nothing.
use Rattle.std.specs.Prelude.{ℕ, zero, suc, ◌+◌, ◌-◌, ◌*◌, ◌/◌, ◌^◌, Bool, true, false, cond, ◌&&◌, ◌||◌, List, [], ◌∷◌, ◌++◌, map, eqb, length, get_or}
use Rattle.bits.specs.Xor.{◌⊕◌}
use Rattle.bits.specs.Bits.{from, each_with}
use Rattle.field.specs.Field.{is_width, mul}
use Rattle.field.specs.Poly.{value, of_each}

-- the sum of elements
unfoldable pub sum : List ℕ → ℕ
sum [] = 0
sum (x ∷ xs) = x ⊕ sum xs

-- the two lists are equal
unfoldable pub same : List ℕ → List ℕ → Bool
same [] [] = true
same [] (y ∷ ys) = false
same (x ∷ xs) [] = false
same (x ∷ xs) (y ∷ ys) = let rest : Bool = same xs ys in eqb x y && rest

-- leading coefficient 1 behind the lower coefficients
unfoldable pub monic : List ℕ → List ℕ
monic l = l ++ (1 ∷ [])

-- the polynomial with the lower coefficients g and the leading coefficient x, at a
unfoldable pub value_from : ℕ → List ℕ → ℕ → ℕ → ℕ
value_from m g x a = value m (g ++ (x ∷ [])) a

-- the same for each leading coefficient of r and point of s; r itself where m is no width
unfoldable pub each_value : ℕ → List ℕ → List ℕ → List ℕ → List ℕ
each_value m g r s = cond (is_width m) (each_with (value_from m g) r s) r

-- the monic polynomial with the lower coefficients g at each point, of at most 8192; 1 past them, and everywhere where m is no width
unfoldable pub values_at : ℕ → List ℕ → List ℕ → List ℕ
values_at m g points = of_each m (value m (monic g)) points

-- p·q: coefficient k is the sum of p_i·q_{k-i}
unfoldable pub product : ℕ → List ℕ → List ℕ → List ℕ
product m p q = map (λ k. sum (map (λ i. mul m (get_or p i 0) (get_or q (k - i) 0)) (from 0 (k + 1)))) (from 0 (length p + length q - 1))

-- p holds for a number below n
unfoldable pub some_below : ℕ → (ℕ → Bool) → Bool
some_below zero p = false
some_below (suc n) p = let rest : Bool = some_below n p in p n || rest

-- p holds for a list of k numbers below n
unfoldable pub some_list : ℕ → ℕ → (List ℕ → Bool) → Bool
some_list n zero p = p []
some_list n (suc k) p = some_below n (λ a. some_list n k (λ l. p (a ∷ l)))

-- a square divides g, given by its lower coefficients: q·q·r = g for a monic q of degree 1 or more and a monic r
unfoldable pub has_square : ℕ → List ℕ → Bool
has_square m g =
    some_below (length g / 2) (λ d. some_list (2 ^ m) (d + 1) (λ q. some_list (2 ^ m) (length g - 2 * (d + 1)) (λ r.
    same (product m (product m (monic q) (monic q)) (monic r)) (monic g))))
