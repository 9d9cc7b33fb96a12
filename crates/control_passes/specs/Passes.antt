-- What the passes of the control-bit program leave in its arrays. Assumes nothing.
use Rattle.std.specs.Prelude.{◌≡◌, ◌≢◌, List, ℕ, ◌+◌, ◌-◌, ◌*◌, ◌^◌, ◌<◌, ◌≤◌, length, get_or}
use Rattle.bits.specs.Bits.{Bytes, bit_at}
use Rattle.network.specs.Network.{val, seek, first, last, middle, part, bits}
use Rattle.network.specs.Tables.{Each}

-- s has each number below 2 ^ k once, and at least two
pub record Level (k : ℕ) (s : List ℕ) : Type 0 where
  pub each : Each (2 ^ k) s
  pub some : 0 < k
  pub small : k < 17

-- where the bit of switch j in layer l stands, for layers of h switches
abbrev pub spot : ℕ → ℕ → ℕ → ℕ → ℕ → ℕ
spot off step h l j = off + step * (l * h + j)

-- the packed row b' is b with the control bits of π in their places
pub record Done (m off step : ℕ) (π ρ : ℕ → ℕ) (b b' : List ℕ) : Type 0 where
  pub put : (l j : ℕ) → l < 2 * m + 1 → j < 2 ^ m → bit_at b' (spot off step (2 ^ m) l j) ≡ bits m π ρ l j
  pub keep : (k : ℕ) → ((l j : ℕ) → l < 2 * m + 1 → j < 2 ^ m → k ≢ spot off step (2 ^ m) l j) → bit_at b' k ≡ bit_at b k
  pub bytes : Bytes b'

-- the packed row b' is b with layer l set to f
pub record Layer (off step h l : ℕ) (f : ℕ → ℕ) (b b' : List ℕ) : Type 0 where
  pub put : (j : ℕ) → j < h → bit_at b' (spot off step h l j) ≡ f j
  pub keep : (k : ℕ) → ((j : ℕ) → j < h → k ≢ spot off step h l j) → bit_at b' k ≡ bit_at b k
  pub bytes : Bytes b'

-- there is room for the bits
abbrev pub Fits : ℕ → ℕ → ℕ → List ℕ → Type 0
Fits m off step b = (l j : ℕ) → l < 2 * m + 1 → j < 2 ^ m → spot off step (2 ^ m) l j < 8 * length b

-- q has the two halves of the middle of s, one after the other
pub record Halved (n h : ℕ) (s q : List ℕ) : Type 0 where
  pub even : (j : ℕ) → j < h → get_or q j 0 ≡ part 0 (middle n (val s) (seek (val s) n)) j
  pub odd : (j : ℕ) → j < h → get_or q (h + j) 0 ≡ part 1 (middle n (val s) (seek (val s) n)) j

pub record Work (n : ℕ) (inv p c p2 c2 : List ℕ) : Type 0 where
  pub inv_fits : n ≤ length inv
  pub p_fits : n ≤ length p
  pub c_fits : n ≤ length c
  pub p2_fits : n ≤ length p2
  pub c2_fits : n ≤ length c2

-- b' is b with the first and the last layer set
pub record Outer (k off step : ℕ) (s b b' : List ℕ) : Type 0 where
  pub between : List ℕ
  pub first_layer : Layer off step (2 ^ (k - 1)) 0 (first (2 ^ k) (val s) (seek (val s) (2 ^ k))) b between
  pub last_layer : Layer off step (2 ^ (k - 1)) (2 * (k - 1)) (last (2 ^ k) (val s) (seek (val s) (2 ^ k))) between b'
