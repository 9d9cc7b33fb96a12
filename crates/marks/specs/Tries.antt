-- Marked reading by two plain ones: the marked bits all 0, then all 1. Terms of laws and of the code's contracts; they need not be
-- believed. Assumes nothing.
use Rattle.std.specs.Prelude.{ℕ, ◌+◌, ◌*◌, Bool, true, false, cond, List, leb}
use Rattle.std.proofs.Math.Option.{Option, none, some}
use Rattle.bits.specs.Bits.{ones, xor_row}
use Rattle.key.specs.Keys.{Key}
use Rattle.decoder.specs.Reading.{reading}
use Rattle.decoder.specs.Search.{or_else}
use Rattle.marks.specs.Marked.{unmarked, differences}

-- the word with its marked bits 1 or 0
unfoldable pub with_marked : Bool → List ℕ → List ℕ → List ℕ
with_marked one w z = cond one (xor_row (unmarked z w) z) (unmarked z w)

-- the pattern p where 2d + s ≤ 2t
unfoldable pub within : Key → List ℕ → List ℕ → Option (List ℕ)
within k z p = cond (leb (2 * differences z p + ones z) (2 * k.t)) (some p) none

-- a pattern e of the word f, as the differences of w from the same code word
unfoldable pub tried : Key → List ℕ → List ℕ → List ℕ → Option (List ℕ) → Option (List ℕ)
tried k w z f none = none
tried k w z f (some e) = within k z (xor_row (xor_row e f) w)

-- that of the word with its marked bits filled
unfoldable pub filled_reading : Key → List ℕ → List ℕ → Bool → Option (List ℕ)
filled_reading k w z one = let f : List ℕ = with_marked one w z in tried k w z f (reading k f)

-- the zeros' where there is one, else the ones'
unfoldable pub two_readings : Key → List ℕ → List ℕ → Option (List ℕ)
two_readings k w z = let other : Option (List ℕ) = filled_reading k w z true in or_else (filled_reading k w z false) other
