-- The levels of an additive transform over GF(2^m). A basis is a list of numbers b_0, b_1, .., of which a level uses the first n; the
-- sum with index i has b_j where i's digit of value 2^j is 1. Assumes nothing.
use Rattle.std.specs.Prelude.{ℕ, zero, suc, ◌+◌, ◌-◌, ◌^◌, ◌<◌, min, ◌≡◌, cond, ltb, List, ◌++◌, map, get_or, take, drop, set, replicate}
use Rattle.bits.specs.Xor.{◌⊕◌}
use Rattle.bits.specs.Bits.{from, each_with, padded}
use Rattle.field.specs.Field.{is_width, mul, inv}
use Rattle.field.specs.PointTable.{digit_sum}
use Rattle.levels.specs.declared.levels.Levels.{Levels}

-- the sum with index i of the first n
unfoldable pub point_of : ℕ → List ℕ → ℕ → ℕ
point_of n b i = digit_sum n (λ j. get_or b j 0) i

-- the sums of the first n, in the order of their indices
unfoldable pub points_of : ℕ → List ℕ → List ℕ
points_of n b = map (point_of n b) (from 0 (2 ^ n))

-- those in g, at the places from 2^n on
unfoldable pub points_put : ℕ → List ℕ → List ℕ → List ℕ
points_put n b g = take (2 ^ n) g ++ (points_of n b ++ drop (2 ^ n) (drop (2 ^ n) g))

-- the first w numbers, and behind them the same with x added
unfoldable pub doubled : ℕ → ℕ → List ℕ → List ℕ
doubled w x l = take w l ++ (map (λ y. y ⊕ x) (take w l) ++ drop (w + w) l)

-- the first n divided by the number behind them
unfoldable pub ratios : ℕ → ℕ → List ℕ → List ℕ
ratios m n b = each_with (λ x i. mul m x (inv m (get_or b n 0))) b (from 0 n)

-- the next level's basis: t² + t for each t of the first n
unfoldable pub lowered : ℕ → ℕ → List ℕ → List ℕ
lowered m n t = each_with (λ x i. mul m x x ⊕ x) t (from 0 n)

-- level j has a basis of m - j numbers; level 0's is 1, z, z², ..
unfoldable pub basis_of : ℕ → ℕ → List ℕ
basis_of m zero = padded 16 (map (λ i. 2 ^ i) (from 0 m))
basis_of m (suc j) = lowered m (m - suc j) (ratios m (m - suc j) (basis_of m j))

-- its last number, and the sums of the others divided by it
unfoldable pub top_of : ℕ → ℕ → ℕ
top_of m j = get_or (basis_of m j) (m - suc j) 0

unfoldable pub factors_of : ℕ → ℕ → List ℕ
factors_of m j = points_of (m - suc j) (ratios m (m - suc j) (basis_of m j))

-- the last numbers of the first k levels, with zeros behind them
unfoldable pub tops_put : ℕ → ℕ → List ℕ
tops_put m zero = replicate 16 0
tops_put m (suc j) = set (tops_put m j) j (top_of m j)

-- the factors of the first k levels, those of level j at the places from 2^(m - 1 - j) on, and 0 elsewhere
unfoldable pub factors_put : ℕ → ℕ → List ℕ
factors_put m zero = replicate 8192 0
factors_put m (suc j) = points_put (m - suc j) (ratios m (m - suc j) (basis_of m j)) (factors_put m j)

-- the number of levels: m, at most 9; 0 where m is no width
unfoldable pub depth_of : ℕ → ℕ
depth_of m = cond (is_width m) (min m 9) 0

unfoldable pub levels_of : ℕ → Levels
levels_of m = record { tops = tops_put m (depth_of m); factors = factors_put m (depth_of m) }

-- 2^j for j below 14, else 0
unfoldable pub two_of : ℕ → ℕ
two_of j = cond (ltb j 14) (2 ^ j) 0

-- g has the factors of each level below k
abbrev pub Factors : ℕ → ℕ → List ℕ → Type 0
Factors m k g = (j : ℕ) → j < k → take (2 ^ (m - suc j)) (drop (2 ^ (m - suc j)) g) ≡ factors_of m j

-- t has the last number of each level's basis, below k
abbrev pub Tops : ℕ → ℕ → List ℕ → Type 0
Tops m k t = (j : ℕ) → j < k → get_or t j 0 ≡ top_of m j
