-- The values of a polynomial at the sums of a basis, level by level. Assumes nothing.
use Rattle.std.specs.Prelude.{ℕ, zero, suc, ◌-◌, ◌^◌, List, [], ◌∷◌, ◌++◌, map, length, take, drop, replicate}
use Rattle.bits.specs.Bits.{from, each_with, xor_row}
use Rattle.field.specs.Field.{mul}
use Rattle.field.specs.Poly.{value}
use Rattle.levels.specs.Levels.{point_of, basis_of, top_of, factors_of}
use Rattle.levels.specs.Twist.{each_block}
use Rattle.transform.specs.Halves.{split}

-- u + g·v and u + g·v + v for the two halves u and v of l
unfoldable pub butterfly : ℕ → List ℕ → List ℕ → List ℕ
butterfly m g l =
    let h : ℕ = length g in
    let u : List ℕ = xor_row (take h l) (each_with (mul m) (drop h l) g) in
    u ++ xor_row (drop h l) u

-- each number r times
unfoldable pub spread : ℕ → List ℕ → List ℕ
spread r [] = []
spread r (x ∷ l) = replicate r x ++ spread r l

-- the values of p at the sums of the first n of a basis
unfoldable pub values_by : ℕ → ℕ → List ℕ → List ℕ → List ℕ
values_by m n b p = map (λ i. value m p (point_of n b i)) (from 0 (2 ^ n))

-- the 2^k coefficients of p after j levels: 2^j polynomials, one behind the other
unfoldable pub parts_of : ℕ → ℕ → ℕ → List ℕ → List ℕ
parts_of m k zero p = p
parts_of m k (suc j) p = each_block (split m (top_of m j)) (2 ^ (k - j)) (2 ^ j) (parts_of m k j p)

-- their values
unfoldable pub values_of : ℕ → ℕ → ℕ → List ℕ → List ℕ
values_of m k j p = each_block (values_by m (m - j) (basis_of m j)) (2 ^ (k - j)) (2 ^ j) (parts_of m k j p)

-- p at every element
unfoldable pub everywhere : ℕ → List ℕ → List ℕ
everywhere m p = map (value m p) (from 0 (2 ^ m))

-- the levels below j joined
unfoldable pub joins_of : ℕ → ℕ → List ℕ → List ℕ
joins_of m zero d = d
joins_of m (suc j) d = joins_of m j (each_block (butterfly m (factors_of m j)) (2 ^ (m - j)) (2 ^ j) d)
