-- Document 01, 'Reading and opening', the usual way (document 004): 2t sums, the shortest register for them, the places where
-- its reversed polynomial is 0, and the check that they explain the word. Assumes nothing.
use Rattle.std.specs.Prelude.{ℕ, zero, suc, ◌-◌, ◌*◌, cond, ◌&&◌, List, [], ◌∷◌, map, eqb, leb, get_or}
use Rattle.std.proofs.Math.Option.{Option, none, some}
use Rattle.bits.specs.Bits.{from, ones, dot}
use Rattle.field.specs.Field.{mul, power, inv}
use Rattle.field.specs.Poly.{value}
use Rattle.poly.specs.Polynomials.{same, monic}
use Rattle.poly.specs.Register.{Register, register}
use Rattle.key.specs.Keys.{Key, goppa_at}

-- the members of l where c is 1
unfoldable pub chosen : List ℕ → List ℕ → List ℕ
chosen [] l = []
chosen (b ∷ c) [] = []
chosen (zero ∷ c) (a ∷ l) = chosen c l
chosen (suc b ∷ c) (a ∷ l) = a ∷ chosen c l

-- α^s / g(α)²
unfoldable pub square_entry : Key → ℕ → ℕ → ℕ
square_entry k s a = mul k.m (power k.m a s) (mul k.m (inv k.m (goppa_at k a)) (inv k.m (goppa_at k a)))

-- the 2t sums of c_i·α_i^s / g(α_i)²
unfoldable pub square_sums : Key → List ℕ → List ℕ
square_sums k c = map (λ s. dot c (map (square_entry k s) k.support)) (from 0 (2 * k.t))

-- c_l, .., c_1
unfoldable pub backward : List ℕ → ℕ → List ℕ
backward c l = map (λ i. get_or c (l - i) 0) (from 0 l)

-- x^l·C(1/x) by its coefficients below the leading 1
unfoldable pub reversed : Register → List ℕ
reversed r = backward r.c r.l

-- a one at each place of the support where x^l·C(1/x) is 0
unfoldable pub places : Key → Register → List ℕ
places k r = map (λ a. cond (eqb (value k.m (monic (reversed r)) a) 0) 1 0) k.support

-- the places that the register of a word's sums gives
unfoldable pub located : Key → List ℕ → List ℕ
located k w = places k (register k.m (square_sums k w))

-- these places, where they are at most t and have the word's sums
unfoldable pub explained : Key → List ℕ → Option (List ℕ)
explained k w =
    let e : List ℕ = located k w in
    cond (leb (ones e) k.t && same (square_sums k e) (square_sums k w)) (some e) none
