-- Polynomials over GF(2^m) as lists of coefficients, the lowest first. Assumes nothing.
use Rattle.std.specs.Prelude.{ℕ, cond, List, [], ◌∷◌, replicate}
use Rattle.bits.specs.Xor.{◌⊕◌}
use Rattle.bits.specs.Bits.{each_with}
use Rattle.field.specs.Field.{is_width, mul}

-- the value at a
unfoldable pub value : ℕ → List ℕ → ℕ → ℕ
value m [] a = 0
value m (x ∷ xs) a = x ⊕ mul m a (value m xs a)

-- x·a + c for each x of r and a of s, one step of Horner's rule at each place; r itself where m is no width
unfoldable pub horner_each : ℕ → ℕ → List ℕ → List ℕ → List ℕ
horner_each m c r s = cond (is_width m) (each_with (λ x a. mul m x a ⊕ c) r s) r

-- h(a) for each a of s, of at most 8192; 1 past them, and everywhere where m is no width
unfoldable pub of_each : ℕ → (ℕ → ℕ) → List ℕ → List ℕ
of_each m h s = cond (is_width m) (each_with (λ x a. h a) (replicate 8192 1) s) (replicate 8192 1)
