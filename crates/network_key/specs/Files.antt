-- Document 02, L7: the key file that stores the support as a switching network, and the conversions. Assumes nothing.
use Rattle.std.specs.Prelude.{ℕ, zero, suc, ◌+◌, ◌-◌, ◌*◌, ◌/◌, ◌%◌, ◌^◌, Bool, not, eqb, length, get_or, take, drop}
use mathlib.Core.List.{List, ◌∷◌, ◌++◌, map, flat_map}
use Rattle.bits.specs.Bits.{from, bytes_for, bit_at, pack}
use Rattle.key.specs.Keys.{Key, pair, elements, parse, two_bytes, file_of, conditions}
use Rattle.network.specs.Network.{switches, network, unused, control_bits}

-- the m lowest binary digits, in reverse order
unfoldable pub reversed : ℕ → ℕ → ℕ
reversed zero x = 0
reversed (suc m) x = x % 2 * 2 ^ m + reversed m (x / 2)

-- the first n values that the network sends out with the settings of the packed row, bit-reversed in m bits
unfoldable pub support_of : ℕ → ℕ → List ℕ → List ℕ
support_of m n row = map (λ i. reversed m (network (m - 1) (λ l j. bit_at row (l * 2 ^ (m - 1) + j)) i)) (from 0 n)

-- The file: one byte m; n in two bytes; t in two bytes, then t elements of g; the bit count in four bytes, then the packed bits.

-- four bytes at i, the low one first
unfoldable pub four : List ℕ → ℕ → ℕ
four file i = pair file i + 65536 * pair file (i + 2)

-- the key that a file says; what a short file lacks counts as 0
unfoldable pub parse_network : List ℕ → Key
parse_network file =
    let m : ℕ = get_or file 0 0 in
    let n : ℕ = pair file 1 in
    let t : ℕ = pair file 3 in
    record { m = m; n = n; t = t; support = support_of m n (drop (9 + 2 * t) file); g = elements file 5 t }

-- 2: the length reckoned from m and t; 36, directly after it: another bit count; else as for the first form of file
unfoldable pub network_conditions : List ℕ → List (Bool × ℕ)
network_conditions file =
    let k : Key = parse_network file in
    let cs : List (Bool × ℕ) = conditions (not (eqb (length file) (9 + 2 * k.t + bytes_for (switches k.m)))) k in
    take 2 cs ++ ((not (eqb (four file (5 + 2 * k.t)) (switches k.m)), 36) ∷ drop 2 cs)

-- the network's values for the support, completed with the unused ones in rising order
unfoldable pub permutation : Key → List ℕ
permutation k = let s : List ℕ = map (reversed k.m) k.support in s ++ unused s (2 ^ k.m)

-- a number in four bytes, low byte first
unfoldable pub four_bytes : ℕ → List ℕ
four_bytes x = two_bytes (x % 65536) ++ two_bytes (x / 65536)

-- the network file of a key
unfoldable pub network_of : Key → List ℕ
network_of k =
    k.m ∷ (two_bytes k.n ++ (two_bytes k.t ++ (flat_map two_bytes k.g
    ++ (four_bytes (switches k.m) ++ pack (control_bits k.m (permutation k))))))

-- old to new, and new to old
unfoldable pub to_network : List ℕ → List ℕ
to_network file = network_of (parse file)

unfoldable pub from_network : List ℕ → List ℕ
from_network file = file_of (parse_network file)
