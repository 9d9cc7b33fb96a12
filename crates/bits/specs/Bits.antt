-- Document 01, 'Bits': packed rows, lists of bytes whose bit i has value 2^(i mod 8) in byte i div 8. Assumes nothing.
use Rattle.std.specs.Prelude.{ℕ, zero, suc, ◌+◌, ◌-◌, ◌*◌, ◌/◌, ◌%◌, ◌^◌, ◌<◌, Bool, true, cond, ◌&&◌, List, [], ◌∷◌, ◌++◌, map, eqb, leb, length, get_or, take, drop, set, replicate}
use Rattle.bits.specs.Xor.{◌⊕◌}

-- every number of the list is a byte
abbrev pub Bytes : List ℕ → Type 0
Bytes s = (k : ℕ) → get_or s k 0 < 256

-- a list of n bits
pub data Row : ℕ → List ℕ → Type 0 where
  end : Row 0 []
  off : {n : ℕ} {e : List ℕ} → Row n e → Row (suc n) (0 ∷ e)
  on : {n : ℕ} {e : List ℕ} → Row n e → Row (suc n) (1 ∷ e)

-- n numbers from k on
unfoldable pub from : ℕ → ℕ → List ℕ
from k zero = []
from k (suc n) = k ∷ from (suc k) n

-- p holds for every number of the list
unfoldable pub every : (ℕ → Bool) → List ℕ → Bool
every p [] = true
every p (x ∷ xs) = let rest : Bool = every p xs in p x && rest

-- the bytes of a row of n bits
unfoldable pub bytes_for : ℕ → ℕ
bytes_for n = (n + 7) / 8

-- bit i, and 0 past the last byte
unfoldable pub bit_at : List ℕ → ℕ → ℕ
bit_at s i = get_or s (i / 8) 0 / 2 ^ (i % 8) % 2

-- the byte b with v for its bit k
unfoldable pub with_bit : ℕ → ℕ → ℕ → ℕ
with_bit b k v = b / 2 ^ (k + 1) * 2 ^ (k + 1) + v * 2 ^ k + b % 2 ^ k

-- the row with v's lowest digit for its bit i; the row itself where it has no bit i
unfoldable pub set_bit : List ℕ → ℕ → ℕ → List ℕ
set_bit s i v = set s (i / 8) (with_bit (get_or s (i / 8) 0) (i % 8) (v % 2))

-- the bits from bit i on become those of the list
unfoldable pub put_bits : List ℕ → ℕ → List ℕ → List ℕ
put_bits [] i s = s
put_bits (b ∷ bs) i s = put_bits bs (suc i) (set_bit s i b)

-- the first n bits, as a list of 0 and 1
unfoldable pub unpack : ℕ → List ℕ → List ℕ
unpack n s = map (bit_at s) (from 0 n)

-- the number with these binary digits, lowest first
unfoldable pub number : List ℕ → ℕ
number [] = 0
number (b ∷ bs) = b + 2 * number bs

-- the packed row of a list of bits, with zero filler
unfoldable pub pack : List ℕ → List ℕ
pack bs = map (λ j. number (take 8 (drop (8 * j) bs))) (from 0 (bytes_for (length bs)))

-- the number of ones of a list of bits
unfoldable pub ones : List ℕ → ℕ
ones [] = 0
ones (b ∷ bs) = b + ones bs

-- the number of ones of a row of n bits
unfoldable pub weight : ℕ → List ℕ → ℕ
weight n s = ones (unpack n s)

-- the filler, the bits from n to the end of the last byte, is 0
unfoldable pub filler_clear : ℕ → List ℕ → Bool
filler_clear n s = every (λ i. eqb (bit_at s i) 0) (from n (8 * bytes_for n - n))

-- the byte length is right and the filler is 0
unfoldable pub well_formed : ℕ → List ℕ → Bool
well_formed n s = eqb (length s) (bytes_for n) && filler_clear n s

-- f(x, y) for each x of d and y of s, from the front, as far as both go; the rest of d as it is
unfoldable pub each_with : (ℕ → ℕ → ℕ) → List ℕ → List ℕ → List ℕ
each_with f [] s = []
each_with f (x ∷ d) [] = x ∷ d
each_with f (x ∷ d) (y ∷ s) = f x y ∷ each_with f d s

-- d with s added by exclusive or
unfoldable pub xor_row : List ℕ → List ℕ → List ℕ
xor_row d s = each_with ◌⊕◌ d s

-- the bytes from the output's start; bytes beyond keep their contents
unfoldable pub over : List ℕ → List ℕ → List ℕ
over bytes out = bytes ++ drop (length bytes) out

-- the list with zeros behind it, n numbers in all
unfoldable pub padded : ℕ → List ℕ → List ℕ
padded n l = l ++ replicate (n - length l) 0

-- the w bits of s from bit b on as a packed row at the output's start; nothing changes where it has no room
unfoldable pub row_written : List ℕ → ℕ → ℕ → List ℕ → List ℕ
row_written s b w out = cond (leb (bytes_for w) (length out)) (over (pack (map (bit_at s) (from b w))) out) out

-- the sum of x_i·y_i by exclusive or: of bits, their product over two elements
unfoldable pub dot : List ℕ → List ℕ → ℕ
dot [] ys = 0
dot (x ∷ xs) [] = 0
dot (x ∷ xs) (y ∷ ys) = x * y ⊕ dot xs ys

-- the product of the row with the pattern, over the pattern's bytes; bits past the row's end count as 0
unfoldable pub row_product : List ℕ → List ℕ → ℕ
row_product row pat = dot (unpack (8 * length pat) row) (unpack (8 * length pat) pat)
