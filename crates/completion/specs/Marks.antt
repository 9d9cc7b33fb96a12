-- Marks for the numbers of a list. Assumes nothing.
use Rattle.std.specs.Prelude.{ℕ, List, [], ◌∷◌}
use Rattle.bits.specs.Bits.{set_bit}

-- the row with bit x set for each number x of the list
unfoldable pub marked : List ℕ → List ℕ → List ℕ
marked [] row = row
marked (x ∷ s) row = marked s (set_bit row x 1)
