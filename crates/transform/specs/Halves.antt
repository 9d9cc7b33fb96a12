-- A polynomial p over GF(2^m) in two halves for a number b that is not 0: with t = x/b, p(x) is low(t² + t) + t·high(t² + t).
-- Coefficients stand lowest first. Assumes nothing.
use Rattle.std.specs.Prelude.{ℕ, List, [], ◌∷◌, ◌++◌}
use Rattle.bits.specs.Xor.{◌⊕◌}
use Rattle.levels.specs.Twist.{twisted, twisted_by}

-- a + b and b for each pair of neighbours a, b
unfoldable pub paired : List ℕ → List ℕ
paired [] = []
paired (a ∷ []) = a ∷ []
paired (a ∷ b ∷ l) = (a ⊕ b) ∷ b ∷ paired l

-- p by powers of y = t² + t: c_0 + c_1·t + (c_2 + c_3·t)·y + ..
unfoldable pub expanded : List ℕ → List ℕ
expanded [] = []
expanded (c ∷ l) = c ∷ paired (expanded l)

-- the numbers at even places, and those at odd places
unfoldable pub unzip : List ℕ → List ℕ × List ℕ
unzip [] = ([], [])
unzip (c ∷ l) = (c ∷ (unzip l).1, (unzip l).0)

-- the two halves of p
unfoldable pub halves : ℕ → ℕ → List ℕ → List ℕ × List ℕ
halves m b p = unzip (expanded (twisted m b p))

-- one behind the other
unfoldable pub split : ℕ → ℕ → List ℕ → List ℕ
split m b p = (halves m b p).0 ++ (halves m b p).1

-- the same by the powers p of b
unfoldable pub split_by : ℕ → List ℕ → List ℕ → List ℕ
split_by m p c = (unzip (expanded (twisted_by m p c))).0 ++ (unzip (expanded (twisted_by m p c))).1
