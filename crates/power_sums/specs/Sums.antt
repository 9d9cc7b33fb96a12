-- Sums of powers over the sums of a basis, weighted, level by level: the values' steps, transposed. Assumes nothing.
use Rattle.std.specs.Prelude.{ℕ, zero, suc, ◌+◌, ◌-◌, ◌^◌, min, cond, List, [], ◌∷◌, ◌++◌, map, length, get_or, take, drop}
use Rattle.bits.specs.Xor.{◌⊕◌}
use Rattle.bits.specs.Bits.{from, each_with, xor_row, padded}
use Rattle.field.specs.Field.{is_width, mul, power}
use Rattle.levels.specs.Levels.{point_of, basis_of, top_of, factors_of}
use Rattle.levels.specs.Twist.{twisted, twisted_by, each_block}

-- f(0) + .. + f(n - 1)
unfoldable pub sum_to : ℕ → (ℕ → ℕ) → ℕ
sum_to zero f = 0
sum_to (suc n) f = sum_to n f ⊕ f n

-- the sum of w_i·x_i^s over the sums x_i of the first n of a basis
unfoldable pub moment : ℕ → ℕ → List ℕ → List ℕ → ℕ → ℕ
moment m n b w s = sum_to (2 ^ n) (λ i. mul m (get_or w i 0) (power m (point_of n b i) s))

-- for the first k powers
unfoldable pub moments_by : ℕ → ℕ → List ℕ → ℕ → List ℕ → List ℕ
moments_by m n b k w = map (moment m n b w) (from 0 k)

-- u + v and g·(u + v) + v for the two halves u and v of l
unfoldable pub folded : ℕ → List ℕ → List ℕ → List ℕ
folded m g l =
    let h : ℕ = length g in
    let a : List ℕ = xor_row (take h l) (drop h l) in
    a ++ xor_row (drop h l) (each_with (mul m) a g)

-- a and a + b for each pair of neighbours a, b
unfoldable pub added : List ℕ → List ℕ
added [] = []
added (a ∷ []) = a ∷ []
added (a ∷ b ∷ l) = a ∷ (a ⊕ b) ∷ added l

-- the sums of t^s from those of (t² + t)^j and t·(t² + t)^j, n numbers in turn
unfoldable pub collected : ℕ → List ℕ → List ℕ
collected zero l = []
collected (suc n) [] = []
collected (suc n) (x ∷ l) = x ∷ collected n (added l)

-- numbers of two lists in turn
unfoldable pub zip : List ℕ → List ℕ → List ℕ
zip [] r = []
zip (x ∷ l) [] = []
zip (x ∷ l) (y ∷ r) = x ∷ y ∷ zip l r

-- the sums of the powers of b·t from those of one level down, h each
unfoldable pub merged : ℕ → ℕ → ℕ → List ℕ → List ℕ
merged m b h l = twisted m b (collected (h + h) (zip (take h l) (drop h l)))

-- the weights after j levels: 2^j lists, one behind the other
unfoldable pub weights_of : ℕ → ℕ → List ℕ → List ℕ
weights_of m zero w = w
weights_of m (suc j) w = each_block (folded m (factors_of m j)) (2 ^ (m - j)) (2 ^ j) (weights_of m j w)

-- their first 2^(k - j) sums of powers
unfoldable pub sums_of : ℕ → ℕ → ℕ → List ℕ → List ℕ
sums_of m k j w = each_block (moments_by m (m - j) (basis_of m j) (2 ^ (k - j))) (2 ^ (m - j)) (2 ^ j) (weights_of m j w)

-- the sum of w_a·a^s over all elements a, for the first k powers
unfoldable pub power_sums : ℕ → ℕ → List ℕ → List ℕ
power_sums m k w = map (λ s. sum_to (2 ^ m) (λ a. mul m (get_or w a 0) (power m a s))) (from 0 k)

-- the low digits of the sum of each part of r numbers, q parts
unfoldable pub heaped : ℕ → ℕ → ℕ → List ℕ → List ℕ
heaped m r zero l = []
heaped m r (suc q) l = mul m (sum_to r (λ i. get_or l i 0)) 1 ∷ heaped m r q (drop r l)

-- merged, with the powers p of b
unfoldable pub merged_by : ℕ → List ℕ → ℕ → List ℕ → List ℕ
merged_by m p h l = twisted_by m p (collected (h + h) (zip (take h l) (drop h l)))

-- the levels below j merged, of k
unfoldable pub merges_of : ℕ → ℕ → ℕ → List ℕ → List ℕ
merges_of m k zero c = c
merges_of m k (suc j) c = merges_of m k j (each_block (merged m (top_of m j) (2 ^ (k - suc j))) (2 ^ (k - j)) (2 ^ j) c)

-- the first 256 powers, or 2^m where that is less, with zeros behind; zeros only where m is no width
unfoldable pub sums_all : ℕ → List ℕ → List ℕ
sums_all m w = padded 256 (cond (is_width m) (power_sums m (2 ^ min m 8) w) [])
