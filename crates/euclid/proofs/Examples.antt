-- Derivatives and greatest common divisors, by computation at width 4. Assumes nothing.
use Prim.Native.Nat.{ℕ}
use mathlib.Core.Path.{◌≡◌, refl}
use mathlib.Core.List.{List, [], ◌∷◌, ◌++◌, map}
use lib.ListN.{take, replicate}
use Rattle.bits.specs.Xor.{◌⊕◌}
use Rattle.bits.specs.Bits.{from, every, each_with, xor_row, padded}
use Rattle.field.specs.Field.{is_width, is_element, modulus_of, poly_mul, reduced as remainder, mul_mod, mul, last_below, inv}
use Rattle.euclid.specs.declared.common.Divisor.{Divisor}
use Rattle.euclid.specs.Euclid.{derivative_at, derivative, size, started, added, step, steps, accepted, common_divisor}

-- a polynomial and its derivative: of a constant, x, 9·x², x³ + 3·x² + x + 3
unfoldable pub derivatives : List (List ℕ × List ℕ)
derivatives =
    ([], []) ∷
    (7 ∷ [], 0 ∷ []) ∷
    (0 ∷ 1 ∷ [], 1 ∷ 0 ∷ []) ∷
    (0 ∷ 0 ∷ 9 ∷ [], 0 ∷ 0 ∷ 0 ∷ []) ∷
    (3 ∷ 1 ∷ 3 ∷ 1 ∷ [], 1 ∷ 0 ∷ 1 ∷ 0 ∷ []) ∷ []

pub derivatives_hold : map (λ r. derivative r.0) derivatives ≡ map (λ r. r.1) derivatives
unfolding derivatives derivative_at derivative from
derivatives_hold = refl

-- the divisor's coefficients, and their number
unfoldable pub coefficients : Divisor → ℕ × List ℕ
coefficients d = (d.length, take d.length d.c)

-- a width, two polynomials and their divisor
unfoldable pub divisors : List (ℕ × List ℕ × List ℕ × ℕ × List ℕ)
divisors =
    -- of 0 and 0, a constant and 0, 0 and 7·x
    (4, [], [], 0, []) ∷
    (4, 0 ∷ 0 ∷ [], 0 ∷ [], 0, []) ∷
    (4, 5 ∷ 0 ∷ [], [], 1, 5 ∷ []) ∷
    (4, 0 ∷ [], 0 ∷ 7 ∷ 0 ∷ [], 2, 0 ∷ 7 ∷ []) ∷
    -- (x + 1)·(x + 2) and (x + 1)·(x + 3); K2's g and 1
    (4, 2 ∷ 3 ∷ 1 ∷ [], 3 ∷ 2 ∷ 1 ∷ [], 2, 1 ∷ 1 ∷ []) ∷
    (4, 8 ∷ 1 ∷ 1 ∷ [], 1 ∷ 0 ∷ 0 ∷ [], 1, 1 ∷ []) ∷
    -- (x + 1)²·(x + 3) and its derivative
    (4, 3 ∷ 1 ∷ 3 ∷ 1 ∷ [], 1 ∷ 0 ∷ 1 ∷ 0 ∷ [], 3, 1 ∷ 0 ∷ 1 ∷ []) ∷
    -- (x² + 9·x + 6)·(5·x + 2) and (x² + 9·x + 6)·(x³ + 3·x² + 1): 13 times x² + 9·x + 6
    (4, 12 ∷ 12 ∷ 9 ∷ 5 ∷ [], 6 ∷ 9 ∷ 11 ∷ 14 ∷ 10 ∷ 1 ∷ [], 3, 8 ∷ 15 ∷ 13 ∷ []) ∷
    -- 129 coefficients, 130; no element; no width
    (4, replicate 128 0 ++ (1 ∷ []), [], 129, replicate 128 0 ++ (1 ∷ [])) ∷
    (4, 1 ∷ replicate 129 0, 1 ∷ [], 0, []) ∷
    (4, 1 ∷ [], 1 ∷ replicate 129 0, 0, []) ∷
    (4, 16 ∷ [], 1 ∷ [], 0, []) ∷
    (4, 1 ∷ [], 1 ∷ 16 ∷ [], 0, []) ∷
    (5, 1 ∷ [], 1 ∷ [], 0, []) ∷ []

pub divisors_hold : map (λ r. coefficients (common_divisor r.0 r.1 r.2)) divisors ≡ map (λ r. (r.3, r.4)) divisors
unfolding ◌⊕◌ from every each_with xor_row is_width is_element modulus_of poly_mul remainder mul_mod mul last_below inv size padded started added step steps accepted common_divisor coefficients divisors
divisors_hold = refl
