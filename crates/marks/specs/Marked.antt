-- Request L8: reading a word with marked places, whose bits are known only to be 0 or 1. A search over all patterns, as reading is.
-- Assumes nothing.
use Rattle.std.specs.Prelude.{ℕ, zero, suc, ◌+◌, ◌*◌, Bool, not, ◌&&◌, List, [], ◌∷◌, eqb, leb, ltb, length}
use Rattle.std.proofs.Math.Option.{Option}
use Rattle.bits.specs.Bits.{bytes_for, unpack, ones, filler_clear, well_formed, each_with, xor_row}
use Rattle.field.specs.Numbers.{first_of}
use Rattle.key.specs.Keys.{Key, unsound}
use Rattle.code.specs.Code.{in_code}
use Rattle.decoder.specs.Search.{first_row}
use Rattle.decoder.specs.Calls.{is_none, pattern_output}

-- a bit without a mark as it is, one with a mark 0
unfoldable pub steady : ℕ → ℕ → ℕ
steady b zero = b
steady b (suc mark) = 0

-- the bits at unmarked places, and 0 at marked ones
unfoldable pub unmarked : List ℕ → List ℕ → List ℕ
unmarked z e = each_with steady e z

-- d, the differences at unmarked places
unfoldable pub differences : List ℕ → List ℕ → ℕ
differences z e = ones (unmarked z e)

-- with s marked places and d ones at unmarked ones the pattern e has 2d + s ≤ 2t, and added bit by bit turns the word w into a
-- code word
unfoldable pub corrects_marked : Key → List ℕ → List ℕ → List ℕ → Bool
corrects_marked k w z e = leb (2 * differences z e + ones z) (2 * k.t) && in_code k (xor_row w e)

-- the pattern that turns a word of n bits, marked by n bits, into such a code word
unfoldable pub marked_reading : Key → List ℕ → List ℕ → Option (List ℕ)
marked_reading k w z = first_row (corrects_marked k w z) k.n []

-- 25, 8, 9, 37, 10, 14
unfoldable pub marked_conditions : Bool → Key → List ℕ → List ℕ → List ℕ → List (Bool × ℕ)
marked_conditions bad k word marks out =
    (bad, 25) ∷
    (not (eqb (length word) (bytes_for k.n)), 8) ∷
    (not (filler_clear k.n word), 9) ∷
    (not (well_formed k.n marks), 37) ∷
    (ltb (length out) (bytes_for k.n), 10) ∷
    (is_none (marked_reading k (unpack k.n word) (unpack k.n marks)), 14) ∷ []

-- the number for a kept key
unfoldable pub marked_number : Key → List ℕ → List ℕ → List ℕ → ℕ
marked_number k word marks out = first_of (marked_conditions (unsound k) k word marks out)

-- the output: the pattern from its start, where nothing is refused
unfoldable pub marked_output : Key → List ℕ → List ℕ → List ℕ → List ℕ
marked_output k word marks out =
    pattern_output (marked_number k word marks out) (marked_reading k (unpack k.n word) (unpack k.n marks)) out
