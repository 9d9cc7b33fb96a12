-- What the public calls add, multiply and invert answer, and the inverses below them. Assumes nothing.
use Rattle.std.specs.Prelude.{ℕ, zero, suc, ◌%◌, ◌^◌, Bool, not, cond, List, [], ◌∷◌, map, eqb}
use Rattle.bits.specs.Xor.{◌⊕◌}
use Rattle.bits.specs.Bits.{every}
use Rattle.field.specs.Numbers.{first_of}
use Rattle.field.specs.Field.{is_width, is_element, mul, inv}
use Rattle.field.specs.declared.Answer.{Answer}
use Rattle.field.specs.declared.Answer.TheVariants.{Value, Refused}

-- 1: width missing or not 4, 12, 13; 4: an element 2^m or more
unfoldable pub elements_number : ℕ → List ℕ → ℕ
elements_number m xs = first_of ((not (is_width m), 1) ∷ (not (every (is_element m) xs), 4) ∷ [])

-- the value where the number is 0, else the refusal with that number
unfoldable pub answer : ℕ → ℕ → Answer
answer zero v = Value v
answer (suc n) v = Refused (suc n)

-- the sum
unfoldable pub add_of : ℕ → ℕ → ℕ → Answer
add_of m a b = answer (elements_number m (a ∷ b ∷ [])) (a ⊕ b)

-- the product
unfoldable pub multiply_of : ℕ → ℕ → ℕ → Answer
multiply_of m a b = answer (elements_number m (a ∷ b ∷ [])) (mul m a b)

-- 1, 4, and 32: the inverse of 0
unfoldable pub invert_number : ℕ → ℕ → ℕ
invert_number m a = first_of ((not (is_width m), 1) ∷ (not (is_element m a), 4) ∷ (eqb a 0, 32) ∷ [])

-- the inverse
unfoldable pub invert_of : ℕ → ℕ → Answer
invert_of m a = answer (invert_number m a) (inv m a)

-- Below the public calls a number stands for its m low digits.

-- the m low digits are not all 0: at a width, there is an inverse
unfoldable pub is_unit : ℕ → ℕ → Bool
is_unit m a = not (eqb (a % 2 ^ m) 0)

-- 1: no width; 32: the m low digits of a member are 0
unfoldable pub inverse_number : ℕ → List ℕ → ℕ
inverse_number m xs = first_of ((not (is_width m), 1) ∷ (not (every (is_unit m) xs), 32) ∷ [])

-- the inverse of a number
unfoldable pub inverse_of : ℕ → ℕ → Answer
inverse_of m a = answer (inverse_number m (a ∷ [])) (inv m a)

-- the inverse at each place; the list itself on refusal
unfoldable pub inverses_of : ℕ → List ℕ → List ℕ
inverses_of m xs = cond (eqb (inverse_number m xs) 0) (map (inv m) xs) xs
