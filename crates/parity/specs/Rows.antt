-- The rows that the digits of a list of numbers are, and rows written over others. Assumes nothing.
use Rattle.std.specs.Prelude.{ℕ, ◌/◌, ◌%◌, ◌^◌}
use mathlib.Core.List.{List, map, zip_with}
use Rattle.bits.specs.Bits.{from, over}
use Rattle.code.specs.PublicKey.{Matrix}

-- digit k of each number
unfoldable pub digit_row : List ℕ → ℕ → List ℕ
digit_row p k = map (λ x. x / 2 ^ k % 2) p

-- a row for each of the m lowest digits
unfoldable pub digit_rows : ℕ → List ℕ → List (List ℕ)
digit_rows m p = map (digit_row p) (from 0 m)

-- each row written over the row at the same place
unfoldable pub over_rows : Matrix → Matrix → Matrix
over_rows rows others = zip_with over rows others
