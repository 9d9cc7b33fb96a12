-- The standard's switching network on 2 ^ (m + 1) values, and the control bits of a permutation. Assumes nothing.
use Rattle.std.specs.Prelude.{cond, not, List, [], ◌∷◌, ◌++◌, map, ℕ, zero, suc, ◌+◌, ◌-◌, ◌*◌, ◌/◌, ◌%◌, ◌^◌, min, eqb, get_or}
use Rattle.std.proofs.Math.Decide.{dec_lt, ℕ_discrete}
use Rattle.bits.specs.Bits.{from, every}

-- x with its lowest bit turned if the bit b is 1
abbrev pub turn : ℕ → ℕ → ℕ
turn b x = 2 * (x / 2) + (x + b) % 2

-- each pair (2j, 2j + 1) exchanged if the bit f j is 1
unfoldable pub pairs : (ℕ → ℕ) → ℕ → ℕ
pairs f x = turn (f (x / 2)) x

-- A layer of switches that join positions w apart, w a power of two: switch j joins j mod w + 2w·⌊j/w⌋ with the position w behind it,
-- so a position's switch is its number without the digit of value w. Where the bit f j is 1, the two values are exchanged: what stands
-- at position x after it comes from this position.
unfoldable pub exchange : ℕ → (ℕ → ℕ) → ℕ → ℕ
exchange w f x = x / (2 * w) * (2 * w) + (x / w + f (x / (2 * w) * w + x % w)) % 2 * w + x % w

-- what stands at position x after l layers, where b l j is the bit of switch j in layer l, and x itself stood there before:
-- the distances are 1, 2, 4, .., 2^m, .., 4, 2, 1
unfoldable pub sent : ℕ → (ℕ → ℕ → ℕ) → ℕ → ℕ → ℕ
sent m b zero x = x
sent m b (suc l) x = sent m b l (exchange (2 ^ min l (2 * m - l)) (b l) x)

-- what the network sends out at position x: 2m + 1 layers
unfoldable pub network : ℕ → (ℕ → ℕ → ℕ) → ℕ → ℕ
network m b x = sent m b (2 * m + 1) x

-- the k-th iterate, and the least of the first k
unfoldable pub it : (ℕ → ℕ) → ℕ → ℕ → ℕ
it σ zero x = x
it σ (suc k) x = σ (it σ k x)

unfoldable pub low : (ℕ → ℕ) → ℕ → ℕ → ℕ
low σ zero x = x
low σ (suc k) x = min (low σ k x) (it σ k x)

-- The routine's step for a permutation π of the numbers below n, an even number, with inverse ρ.
module _ (n : ℕ) (π ρ : ℕ → ℕ) where
  -- there and back, and the least member of the cycle of x
  abbrev pub around : ℕ → ℕ
  around x = π (turn 1 (ρ (turn 1 x)))

  unfoldable pub cyc : ℕ → ℕ
  cyc x = low around n x

  -- the switches before and after the middle, and the middle with its inverse
  unfoldable pub first : ℕ → ℕ
  first j = cyc (2 * j) % 2

  unfoldable pub last : ℕ → ℕ
  last k = pairs first (π (2 * k)) % 2

  unfoldable pub middle : ℕ → ℕ
  middle y = pairs first (π (pairs last y))

  unfoldable pub middle⁻ : ℕ → ℕ
  middle⁻ y = pairs last (ρ (pairs first y))

-- the numbers 2j + p, of parity p, counted by j
unfoldable pub part : ℕ → (ℕ → ℕ) → ℕ → ℕ
part p M j = M (2 * j + p) / 2

-- The control bits: bit j of layer l. The middle's halves have theirs at the switches of their own parity.
unfoldable pub bits : (m : ℕ) (π ρ : ℕ → ℕ) → ℕ → ℕ → ℕ
bits zero π ρ l j = π (2 * j) % 2
bits (suc m) π ρ zero j = first (2 ^ suc (suc m)) π ρ j
bits (suc m) π ρ (suc l) j = elim (dec_lt l (2 * m + 1)) [
  | yes _ ↦ bits m (part (j % 2) (middle (2 ^ suc (suc m)) π ρ)) (part (j % 2) (middle⁻ (2 ^ suc (suc m)) π ρ)) l (j / 2)
  | no _ ↦ last (2 ^ suc (suc m)) π ρ j
]

-- a list of the numbers below its length as a permutation, which moves nothing beyond; and its inverse, by search
abbrev pub val : List ℕ → ℕ → ℕ
val s x = get_or s x x

unfoldable pub seek : (ℕ → ℕ) → ℕ → ℕ → ℕ
seek f zero v = v
seek f (suc n) v = elim (ℕ_discrete (f n) v) [ yes _ ↦ n | no _ ↦ seek f n v ]

-- bit i of the packed row, for a list of 2 ^ (m + 1) numbers
unfoldable pub control_bit : ℕ → List ℕ → ℕ → ℕ
control_bit m s i = bits m (val s) (seek (val s) (2 ^ suc m)) (i / 2 ^ m) (i % 2 ^ m)

-- the bit count for 2^m values: 2m − 1 layers of 2^(m−1) switches
unfoldable pub switches : ℕ → ℕ
switches m = (2 * m - 1) * 2 ^ (m - 1)

-- their bits for a list of the numbers below 2^m
unfoldable pub control_bits : ℕ → List ℕ → List ℕ
control_bits m s = map (control_bit (m - 1) s) (from 0 (switches m))

-- the numbers below v that the list has not, in rising order
unfoldable pub unused : List ℕ → ℕ → List ℕ
unused s zero = []
unused s (suc v) = unused s v ++ cond (every (λ x. not (eqb x v)) s) (v ∷ []) []
