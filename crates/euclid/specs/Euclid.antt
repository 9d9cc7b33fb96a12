-- The derivative of a polynomial, Euclid's algorithm and the square test, on lists of coefficients, the lowest first. Assumes nothing.
use Rattle.std.specs.Prelude.{ℕ, zero, suc, ◌+◌, ◌-◌, ◌*◌, ◌%◌, Bool, cond, ◌&&◌, List, [], ◌∷◌, ◌++◌, map, eqb, ltb, leb, length, get_or, take, replicate}
use Rattle.bits.specs.Bits.{from, every, xor_row, padded}
use Rattle.field.specs.Field.{is_width, is_element, mul, inv}
use Rattle.poly.specs.Polynomials.{has_square}
use Rattle.euclid.specs.declared.common.Divisor.{Divisor}
use Rattle.euclid.specs.declared.common.Pair.{Pair}

-- coefficient k of the derivative: p_{k+1} where k is even, else 0
unfoldable pub derivative_at : List ℕ → ℕ → ℕ
derivative_at p k = cond (eqb (k % 2) 0) (get_or p (k + 1) 0) 0

-- the derivative, with as many coefficients
unfoldable pub derivative : List ℕ → List ℕ
derivative p = map (derivative_at p) (from 0 (length p))

-- the number of coefficients up to the last that is not 0
unfoldable pub size : List ℕ → ℕ
size [] = 0
size (x ∷ xs) = let rest : ℕ = size xs in cond (eqb x 0 && eqb rest 0) 0 (suc rest)

-- a and b before the first step
unfoldable pub started : List ℕ → List ℕ → Pair
started a b = record { a = padded 129 a; b = padded 129 b; da = size a; db = size b }

-- a + x^y·b, in the first n coefficients
unfoldable pub added : ℕ → ℕ → List ℕ → List ℕ → List ℕ
added y n a b = xor_row a (take n (replicate y 0 ++ b))

-- the three kinds of step: b without its top coefficient, a and b in the other order, a reduced by b
abbrev pub lowered : Pair → Pair
lowered p = record { a = p.a; b = p.b; da = p.da; db = p.db - 1 }

abbrev pub swapped : Pair → Pair
swapped p = record { a = p.b; b = p.a; da = p.db; db = p.da }

-- a's top coefficient divided by b's
abbrev pub quotient : ℕ → Pair → ℕ
quotient m p = mul m (get_or p.a (p.da - 1) 0) (inv m (get_or p.b (p.db - 1) 0))

abbrev pub reduced : ℕ → Pair → Pair
reduced m p = record { a = added (p.da - p.db) p.da p.a (map (mul m (quotient m p)) p.b); b = p.b; da = p.da - 1; db = p.db }

-- a step: the top coefficient of b is 0, or a has fewer coefficients than b, or not
unfoldable pub step : ℕ → Pair → Pair
step m p = cond (eqb (get_or p.b (p.db - 1) 0) 0) (lowered p) (cond (ltb p.da p.db) (swapped p) (reduced m p))

-- steps until b has no coefficient, at most k
unfoldable pub steps : ℕ → ℕ → Pair → Pair
steps m zero p = p
steps m (suc k) p = let rest : Pair = steps m k (step m p) in cond (eqb p.db 0) p rest

-- m is a width, and p has at most 129 coefficients, each an element
unfoldable pub accepted : ℕ → List ℕ → Bool
accepted m p = is_width m && leb (length p) 129 && every (is_element m) p

-- no coefficient
abbrev pub no_divisor : Divisor
no_divisor = record { length = 0; c = replicate 129 0 }

-- what is left of a once b has no coefficient
abbrev pub last_divisor : ℕ → List ℕ → List ℕ → Divisor
last_divisor m a b = let p = steps m (size a + 2 * size b) (started a b) in record { length = p.da; c = p.a }

-- a greatest common divisor; no coefficient where a or b is not accepted
unfoldable pub common_divisor : ℕ → List ℕ → List ℕ → Divisor
common_divisor m a b = cond (accepted m a && accepted m b) (last_divisor m a b) no_divisor

-- what the square test answers: false where the width, the length or an element is out of bounds
unfoldable pub square_test : ℕ → List ℕ → Bool
square_test m g = is_width m && leb (length g) 128 && every (is_element m) g && has_square m g
