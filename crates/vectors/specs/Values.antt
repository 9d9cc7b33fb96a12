-- How often byte values stand in some bytes. Assumes nothing.
use Rattle.std.specs.Prelude.{Bool, cond, List, [], ◌∷◌, ℕ, ◌+◌, eqb, get_or}
use Rattle.bits.specs.Bits.{from, every}

-- how often a value stands in a list
unfoldable pub occurrences_of : ℕ → List ℕ → ℕ
occurrences_of v [] = 0
occurrences_of v (x ∷ l) = cond (eqb x v) 1 0 + occurrences_of v l

-- the counts say for each of the 256 byte values how often it stands in the bytes
unfoldable pub counts_hold : List ℕ → List ℕ → Bool
counts_hold counts l = every (λ v. eqb (get_or counts v 0) (occurrences_of v l)) (from 0 256)
