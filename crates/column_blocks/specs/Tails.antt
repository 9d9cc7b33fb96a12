-- Rows of T from a workspace whose right halves hold the inverse of H's left part. Assumes nothing.
use Rattle.std.specs.Prelude.{ℕ, List, map, length}
use Rattle.bits.specs.Bits.{from, dot}
use Rattle.key.specs.Keys.{key_of}
use Rattle.small_key.specs.Inverse.{parity_column}
use Rattle.block_product.specs.Blocks.{right_row}

-- row i: its products with H's columns for the points
unfoldable pub tail_row : ℕ → List ℕ → List ℕ → ℕ → List ℕ → ℕ → List ℕ
tail_row m points g rows work i = map (λ c. dot (right_row rows work i) (parity_column (key_of m points g) c)) (from 0 (length points))
