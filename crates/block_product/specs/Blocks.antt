-- A workspace of rows in two halves, with a block of columns at the front of the rows and a square matrix in the right halves. Assumes nothing.
use Rattle.std.specs.Prelude.{ℕ, ◌+◌, ◌*◌, List, drop}
use Rattle.bits.specs.Bits.{bytes_for, unpack}
use Rattle.small_key.specs.Sums.{sum_rows}
use Rattle.sum_tables.specs.Apart.{rows_apart}

-- the bytes of a row
unfoldable pub step_of : ℕ → ℕ
step_of rows = bytes_for rows + bytes_for rows

-- row i of the square matrix
unfoldable pub right_row : ℕ → List ℕ → ℕ → List ℕ
right_row rows work i = unpack rows (drop (i * step_of rows + bytes_for rows) work)

-- row i of its product with the block of w columns
unfoldable pub block_row : ℕ → ℕ → List ℕ → ℕ → List ℕ
block_row rows w work i = sum_rows w (right_row rows work i) (rows_apart rows w (step_of rows) work)
