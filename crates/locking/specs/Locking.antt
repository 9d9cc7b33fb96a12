-- The terms of lock's private functions. Assumes nothing.
use Rattle.std.specs.Prelude.{ℕ, List, map}
use Rattle.bits.specs.Xor.{◌⊕◌}
use Rattle.bits.specs.Bits.{from, bit_at, unpack, dot}
use Rattle.code.specs.Lock.{row_of}

-- bit r of [I|T]·e, where T has rows of w bits and is beside an identity with `rows` rows
unfoldable pub capsule_bit : ℕ → ℕ → List ℕ → List ℕ → ℕ → ℕ
capsule_bit w rows public pattern r = bit_at pattern r ⊕ dot (unpack w (row_of w public r)) (map (bit_at pattern) (from rows w))
