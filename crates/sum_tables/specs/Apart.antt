-- Rows that lie some bytes apart in a list of bytes, and a row added. Assumes nothing.
use Rattle.std.specs.Prelude.{ℕ, ◌*◌, List, map, drop}
use Rattle.bits.specs.Bits.{from, unpack, xor_row}
use Rattle.code.specs.PublicKey.{Matrix}

-- r with the row p added
unfoldable pub plus : List ℕ → List ℕ → List ℕ
plus p r = xor_row r p

-- k rows of n bits, the first at the start, each `step` bytes behind the one before
unfoldable pub rows_apart : ℕ → ℕ → ℕ → List ℕ → Matrix
rows_apart k n step h = map (λ r. unpack n (drop (r * step) h)) (from 0 k)
