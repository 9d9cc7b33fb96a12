-- Sums of rows of bits, and the table of all sums of a few rows. Assumes nothing.
use Rattle.std.specs.Prelude.{ℕ, ◌*◌, ◌/◌, ◌%◌, List, [], ◌∷◌, map, replicate}
use Rattle.bits.specs.Bits.{xor_row}
use Rattle.code.specs.PublicKey.{Matrix}

-- the sum of the rows at the ones of a list; rows of n bits
unfoldable pub sum_rows : ℕ → List ℕ → Matrix → List ℕ
sum_rows n [] rs = replicate n 0
sum_rows n (d ∷ ds) [] = replicate n 0
sum_rows n (d ∷ ds) (r ∷ rs) = xor_row (map (◌*◌ d) r) (sum_rows n ds rs)

-- row c of the table: the sum of the rows at the ones of c, lowest digit first
unfoldable pub table_row : ℕ → Matrix → ℕ → List ℕ
table_row n [] c = replicate n 0
table_row n (p ∷ ps) c = xor_row (map (◌*◌ (c % 2)) p) (table_row n ps (c / 2))
