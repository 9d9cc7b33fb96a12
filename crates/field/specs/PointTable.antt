-- The multiples of points, and products with the points as sums of them. Assumes nothing.
use Rattle.std.specs.Prelude.{ℕ, zero, suc, ◌+◌, ◌*◌, ◌/◌, ◌%◌, ◌^◌, List, map, get_or}
use Rattle.bits.specs.Xor.{◌⊕◌}
use Rattle.bits.specs.Bits.{from, each_with}
use Rattle.field.specs.Field.{mul}

-- a·z^j for each of the first 64 points a and each j below 13, a row of 64 for each j; 0 past the points
unfoldable pub multiples_of : ℕ → List ℕ → List ℕ
multiples_of m a = map (λ q. mul m (get_or a (q % 64) 0) (2 ^ (q / 64))) (from 0 832)

-- the sum of v(j) for each digit 1 of r, its place j below k
unfoldable pub digit_sum : ℕ → (ℕ → ℕ) → ℕ → ℕ
digit_sum zero v r = 0
digit_sum (suc k) v r = digit_sum k v r ⊕ r / 2 ^ k % 2 * v k

-- the entries in column i of t, in rows of 64, that r's 13 low digits select, added
unfoldable pub combination : List ℕ → ℕ → ℕ → ℕ
combination t i r = digit_sum 13 (λ j. get_or t (64 * j + i) 0) r

-- the combination for x, plus c, at each of the first 64 places
unfoldable pub combine_each : List ℕ → ℕ → List ℕ → List ℕ
combine_each t c r = each_with (λ x i. combination t i x ⊕ c) r (from 0 64)
