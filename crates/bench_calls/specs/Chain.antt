-- b·a^n in the field of width m, one product after the other. Assumes nothing.
use Rattle.std.specs.Prelude.{ℕ, zero, suc}
use Rattle.field.specs.Field.{mul}

unfoldable pub chain : ℕ → ℕ → ℕ → ℕ → ℕ
chain zero m a b = b
chain (suc n) m a b = chain n m a (mul m b a)
