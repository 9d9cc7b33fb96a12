-- A square matrix of packed rows beside the identity. Assumes nothing.
use Rattle.std.specs.Prelude.{ℕ, ◌+◌, ◌*◌, List, ◌++◌, map, drop, replicate}
use Rattle.bits.specs.Bits.{from, bytes_for, unpack, set_bit, over}
use Rattle.code.specs.PublicKey.{Matrix}
use Rattle.small_key.specs.Inverse.{unit_row}

-- the bits of a row: whole bytes for the matrix, then the identity
unfoldable pub pair_bits : ℕ → ℕ
pair_bits rows = 8 * bytes_for rows + rows

-- the first b bytes, as row i of the identity
unfoldable pub unit_bytes : ℕ → ℕ → List ℕ → List ℕ
unit_bytes b i row = set_bit (over (replicate b 0) row) i 1

-- row r with its left half as it is and its right half the identity's
unfoldable pub beside_row : ℕ → List ℕ → ℕ → List ℕ
beside_row rows w r = unpack (8 * bytes_for rows) (drop (r * (bytes_for rows + bytes_for rows)) w) ++ unit_row rows r

-- the first k rows so
unfoldable pub beside_rows : ℕ → ℕ → List ℕ → Matrix
beside_rows rows k w = map (beside_row rows w) (from 0 k)
