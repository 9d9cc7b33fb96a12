-- The fields of a line, with a blank (32) between two, and the buffers that they tell of. Assumes nothing.
use Rattle.std.specs.Prelude.{Bool, cond, List, [], ◌∷◌, ℕ, zero, suc, ◌+◌, ◌-◌, ◌*◌, ◌%◌, eqb, ltb, drop, get_or, set, replicate}
use Rattle.bits.specs.Bits.{from, every}
use Rattle.vectors.specs.declared.line.Bytes.{Bytes}

-- the place of the text's first newline, or its end
unfoldable pub end_of : List ℕ → ℕ
end_of [] = 0
end_of (b ∷ l) = let rest : ℕ = end_of l in cond (eqb b 10) 0 (suc rest)

-- the place where field k starts, behind k blanks, or the end
unfoldable pub start_of : List ℕ → ℕ → ℕ
start_of [] k = 0
start_of (b ∷ l) zero = 0
start_of (b ∷ l) (suc k) = suc (start_of l (cond (eqb b 32) k (suc k)))

-- the line from field k on
unfoldable pub field_of : List ℕ → ℕ → List ℕ
field_of line k = drop (start_of line k) line

-- the value of a digit in ASCII: `0` to `9` are 48 to 57, `a` to `f` are 97 to 102
unfoldable pub digit_of : ℕ → ℕ
digit_of b = cond (ltb b 97) (b % 16) ((b - 97 + 10) % 16)

-- the bytes of two hexadecimal digits each, up to the first place below `0`
unfoldable pub hex_bytes : List ℕ → List ℕ
hex_bytes [] = []
hex_bytes (x ∷ []) = []
hex_bytes (x ∷ y ∷ l) = let rest : List ℕ = hex_bytes l in cond (ltb x 48) [] ((16 * digit_of x + digit_of y) ∷ rest)

-- the number in decimal up to a blank, behind the digits of x: right below 60,000
unfoldable pub decimal_from : ℕ → List ℕ → ℕ
decimal_from x [] = x
decimal_from x (b ∷ l) = let rest : ℕ = decimal_from (x % 6000 * 10 + digit_of b) l in cond (eqb b 32) x rest

-- the number that field k says in decimal, and 0 where there is no such field
unfoldable pub number_of : List ℕ → ℕ → ℕ
number_of line k = decimal_from 0 (field_of line k)

-- the number that field k and the next say: of the next behind `r`, else 0
unfoldable pub refused_of : List ℕ → ℕ → ℕ
refused_of line k = cond (eqb (get_or line (start_of line k) 0) 114) (number_of line (k % 100 + 1)) 0

unfoldable pub no_bytes : Bytes
no_bytes = record { bytes = replicate 64 0; count = 0 }

-- a byte behind the others; behind 64 it is the first again
unfoldable pub with_byte : Bytes → ℕ → Bytes
with_byte b x = record { bytes = set b.bytes (b.count % 64) x; count = b.count % 64 + 1 }

-- bytes behind the others
unfoldable pub with_bytes : Bytes → List ℕ → Bytes
with_bytes b [] = b
with_bytes b (x ∷ l) = with_bytes (with_byte b x) l

-- the bytes of field k; `-` (45) says none
unfoldable pub bytes_of : List ℕ → ℕ → Bytes
bytes_of line k = with_bytes no_bytes (hex_bytes (field_of line k))

-- the output that field k and the next say: none where there is a number
unfoldable pub output_of : List ℕ → ℕ → Bytes
output_of line k = cond (eqb (refused_of line k) 0) (bytes_of line (k % 100 + 1)) no_bytes

-- the byte at i, and filler past the end
unfoldable pub byte_or_filler : Bytes → ℕ → ℕ
byte_or_filler b i = cond (ltb i b.count) (get_or b.bytes i 0) 165

-- the buffer's 64 bytes are the bytes, and filler past them
unfoldable pub holds_of : List ℕ → Bytes → Bool
holds_of buffer b = every (λ i. eqb (get_or buffer i 0) (byte_or_filler b i)) (from 0 64)
