-- Weighted sums of powers over points. Assumes nothing.
use Rattle.std.specs.Prelude.{ℕ, min, cond, List, [], ◌∷◌, map}
use Rattle.bits.specs.Xor.{◌⊕◌}
use Rattle.bits.specs.Bits.{from, padded}
use Rattle.field.specs.Field.{is_width, mul, power}

-- the sum of w_i·a_i^s over the points a_i, as far as both lists go
unfoldable pub weighted_sum : ℕ → ℕ → List ℕ → List ℕ → ℕ
weighted_sum m s [] points = 0
weighted_sum m s (x ∷ w) [] = 0
weighted_sum m s (x ∷ w) (a ∷ points) = mul m x (power m a s) ⊕ weighted_sum m s w points

-- for the first k powers
unfoldable pub weighted_sums : ℕ → ℕ → List ℕ → List ℕ → List ℕ
weighted_sums m k w points = map (λ s. weighted_sum m s w points) (from 0 k)

-- the first k powers, at most 256, with zeros behind; zeros only where m is no width
unfoldable pub weighted_all : ℕ → ℕ → List ℕ → List ℕ → List ℕ
weighted_all m k w points = padded 256 (cond (is_width m) (weighted_sums m (min k 256) w points) [])
