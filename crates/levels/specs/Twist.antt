-- Coefficients times powers of a number, and a function on each part of a list. Assumes nothing.
use Rattle.std.specs.Prelude.{ℕ, zero, suc, List, [], ◌∷◌, ◌++◌, map, take, drop}
use Rattle.bits.specs.Bits.{from}
use Rattle.field.specs.Field.{mul, power}
use Rattle.field.specs.Poly.{horner_each}

-- c_i·b^(k + i) for each c_i
unfoldable pub scaled : ℕ → ℕ → ℕ → List ℕ → List ℕ
scaled m b k [] = []
scaled m b k (c ∷ l) = mul m c (power m b k) ∷ scaled m b (suc k) l

-- c_i·b^i for each c_i, the first as it is
unfoldable pub twisted : ℕ → ℕ → List ℕ → List ℕ
twisted m b [] = []
twisted m b (c ∷ l) = c ∷ scaled m b 1 l

-- b, b², .., n numbers
unfoldable pub powers_of : ℕ → ℕ → ℕ → List ℕ
powers_of m b n = map (power m b) (from 1 n)

-- the first as it is, the others times the numbers p; all as they are where m is no width
unfoldable pub twisted_by : ℕ → List ℕ → List ℕ → List ℕ
twisted_by m p [] = []
twisted_by m p (c ∷ l) = c ∷ horner_each m 0 l p

-- f on each of the first q parts of w numbers
unfoldable pub each_block : (List ℕ → List ℕ) → ℕ → ℕ → List ℕ → List ℕ
each_block f w zero l = l
each_block f w (suc q) l = f (take w l) ++ each_block f w q (drop w l)
