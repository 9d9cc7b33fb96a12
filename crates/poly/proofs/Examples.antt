-- The register's length and polynomial, its refusals, and squares that divide, by computation at width 4. A row of registers
-- with a line's number is that line of the vectors' registers.txt. Assumes nothing.
use Prim.Native.Nat.{ℕ, zero, suc, ◌+◌}
use mathlib.Core.Path.{◌≡◌, refl}
use mathlib.Core.Bool.{Bool, true, false}
use mathlib.Core.List.{List, [], ◌∷◌, ◌++◌, map}
use lib.ListN.{take, drop, replicate}
use Rattle.bits.specs.Xor.{◌⊕◌}
use Rattle.bits.specs.Bits.{from, every, each_with, xor_row}
use Rattle.field.specs.Numbers.{first_of}
use Rattle.field.specs.Field.{is_width, is_element, modulus_of, poly_mul, reduced, mul_mod, mul, last_below, inv}
use Rattle.poly.specs.Polynomials.{sum, same, monic, product, some_below, some_list, has_square}
use Rattle.poly.specs.Register.{Register, longest, start, discrepancy, corrected, turn, turns, register, register_number}

-- what the call gives: the length and the coefficients 0 to the length, or a number
pub data Outcome : Type 0 where
  gives : ℕ → List ℕ → Outcome
  refused : ℕ → Outcome

unfoldable pub outcome : ℕ → Register → Outcome
outcome zero r = gives r.l (take (r.l + 1) r.c)
outcome (suc n) r = refused (suc n)

unfoldable pub answer : ℕ → List ℕ → Outcome
answer m s = outcome (register_number m s) (register m s)

unfoldable pub registers : List (ℕ × List ℕ × Outcome)
registers =
    -- lines 1, 4, 5, 7, 8, 10: at most three elements
    (4, [], gives 0 (1 ∷ [])) ∷
    (4, 6 ∷ [], gives 1 (1 ∷ 6 ∷ [])) ∷
    (4, 0 ∷ [], gives 0 (1 ∷ [])) ∷
    (4, 7 ∷ 4 ∷ [], gives 1 (1 ∷ 11 ∷ [])) ∷
    (4, 0 ∷ 15 ∷ [], gives 2 (1 ∷ 0 ∷ 15 ∷ [])) ∷
    (4, 10 ∷ 3 ∷ 2 ∷ [], gives 2 (1 ∷ 7 ∷ 13 ∷ [])) ∷
    -- lines 13, 16, 22: more
    (4, 10 ∷ 2 ∷ 3 ∷ 14 ∷ [], gives 2 (1 ∷ 0 ∷ 7 ∷ [])) ∷
    (4, 7 ∷ 7 ∷ 15 ∷ 12 ∷ 4 ∷ [], gives 3 (1 ∷ 2 ∷ 5 ∷ 3 ∷ [])) ∷
    (4, 8 ∷ 6 ∷ 2 ∷ 5 ∷ 5 ∷ 4 ∷ 0 ∷ [], gives 4 (1 ∷ 7 ∷ 11 ∷ 5 ∷ 6 ∷ [])) ∷
    -- the first element that is not 0 stands last: the length is one more than what is in front
    (4, 0 ∷ 0 ∷ 1 ∷ [], gives 3 (1 ∷ 0 ∷ 0 ∷ 1 ∷ [])) ∷
    -- lines 18, 32: a first discrepancy that comes late
    (4, 0 ∷ 1 ∷ 0 ∷ 0 ∷ 1 ∷ [], gives 3 (1 ∷ 0 ∷ 0 ∷ 1 ∷ [])) ∷
    (4, 0 ∷ 0 ∷ 0 ∷ 0 ∷ 0 ∷ 0 ∷ 12 ∷ 0 ∷ 15 ∷ 0 ∷ [], gives 7 (1 ∷ 0 ∷ 12 ∷ 0 ∷ 0 ∷ 0 ∷ 0 ∷ 12 ∷ [])) ∷
    -- lines 21, 24: the polynomial's degree is smaller than the length
    (4, 0 ∷ 1 ∷ 1 ∷ 0 ∷ 0 ∷ 0 ∷ [], gives 3 (1 ∷ 0 ∷ 0 ∷ 0 ∷ [])) ∷
    (4, 1 ∷ 0 ∷ 1 ∷ 1 ∷ 1 ∷ 1 ∷ 1 ∷ [], gives 3 (1 ∷ 1 ∷ 0 ∷ 0 ∷ [])) ∷
    -- lines 657, 658, 659, 660
    (0, [], refused 1) ∷
    (4, replicate 257 0, refused 2) ∷
    (4, 1 ∷ 16 ∷ [], refused 4) ∷
    (13, replicate 255 0 ++ (8192 ∷ []), refused 4) ∷
    -- 1 before 2, 2 before 4
    (5, replicate 257 99, refused 1) ∷
    (4, replicate 257 16, refused 2) ∷ []

pub registers_hold : map (λ r. answer r.0 r.1) registers ≡ map (λ r. r.2) registers
unfolding ◌⊕◌ from every each_with xor_row first_of is_width is_element modulus_of poly_mul reduced mul_mod mul last_below inv sum longest start discrepancy corrected turn turns register register_number outcome answer registers
registers_hold = refl

-- past the length every coefficient is 0
pub rest_zero : drop 4 (register 4 (0 ∷ 1 ∷ 0 ∷ 0 ∷ 1 ∷ [])).c ≡ replicate 253 0
unfolding ◌⊕◌ from every each_with xor_row is_width modulus_of poly_mul reduced mul_mod mul last_below inv sum longest start discrepancy corrected turn turns register
rest_zero = refl

-- 256 elements are not too many
pub longest_list : register_number 4 (replicate 256 15) ≡ 0
unfolding register_number first_of is_width longest every is_element
longest_list = refl

-- a polynomial's lower coefficients, and whether a square divides it
unfoldable pub squares : List (List ℕ × Bool)
squares =
    ([], false) ∷
    (0 ∷ [], false) ∷
    (7 ∷ [], false) ∷
    -- x², (x + 1)², (x + 5)², K2's g, x·(x + 1)
    (0 ∷ 0 ∷ [], true) ∷
    (1 ∷ 0 ∷ [], true) ∷
    (2 ∷ 0 ∷ [], true) ∷
    (8 ∷ 1 ∷ [], false) ∷
    (0 ∷ 1 ∷ [], false) ∷
    -- x³, x²·(x + 1), one more double root; no root, three roots
    (0 ∷ 0 ∷ 0 ∷ [], true) ∷
    (0 ∷ 0 ∷ 1 ∷ [], true) ∷
    (3 ∷ 3 ∷ 1 ∷ [], true) ∷
    (9 ∷ 4 ∷ 7 ∷ [], false) ∷
    (1 ∷ 0 ∷ 0 ∷ [], false) ∷
    -- the square of K2's g
    (12 ∷ 0 ∷ 1 ∷ 0 ∷ [], true) ∷ []

pub squares_hold : map (λ r. has_square 4 r.0) squares ≡ map (λ r. r.1) squares
unfolding ◌⊕◌ from is_width modulus_of poly_mul reduced mul_mod mul sum same monic product some_below some_list has_square squares
squares_hold = refl
