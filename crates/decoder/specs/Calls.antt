-- Document 01, 'Station': the numbers of read and open that concern the key and the buffers, and what is written. Assumes nothing.
use Rattle.std.specs.Prelude.{ℕ, Bool, true, false, cond, not, List, [], ◌∷◌, eqb, ltb, length}
use Rattle.std.proofs.Math.Option.{Option, none, some}
use Rattle.bits.specs.Bits.{bytes_for, unpack, pack, filler_clear, over}
use Rattle.field.specs.Numbers.{first_of}
use Rattle.key.specs.Keys.{Key, unsound, reducible}
use Rattle.code.specs.Publish.{capsule_bits}
use Rattle.decoder.specs.Reading.{reading, opening}

-- the pattern that is found, and whether none is
unfoldable pub found : Option (List ℕ) → List ℕ
found none = []
found (some e) = e

unfoldable pub is_none : Option (List ℕ) → Bool
is_none none = true
is_none (some e) = false

-- 25, 34, 24, 8, 9, 10, 13
unfoldable pub open_conditions : Bool → Bool → Key → List ℕ → List ℕ → List (Bool × ℕ)
open_conditions bad unpublished k capsule out =
    (bad, 25) ∷
    (reducible k, 34) ∷
    (unpublished, 24) ∷
    (not (eqb (length capsule) (bytes_for (capsule_bits k))), 8) ∷
    (not (filler_clear (capsule_bits k) capsule), 9) ∷
    (ltb (length out) (bytes_for k.n), 10) ∷
    (is_none (opening k (unpack (capsule_bits k) capsule)), 13) ∷ []

-- 25, 8, 9, 10, 14
unfoldable pub read_conditions : Bool → Key → List ℕ → List ℕ → List (Bool × ℕ)
read_conditions bad k word out =
    (bad, 25) ∷
    (not (eqb (length word) (bytes_for k.n)), 8) ∷
    (not (filler_clear k.n word), 9) ∷
    (ltb (length out) (bytes_for k.n), 10) ∷
    (is_none (reading k (unpack k.n word)), 14) ∷ []

-- the number for a kept key
unfoldable pub open_number : Bool → Key → List ℕ → List ℕ → ℕ
open_number unpublished k capsule out = first_of (open_conditions (unsound k) unpublished k capsule out)

unfoldable pub read_number : Key → List ℕ → List ℕ → ℕ
read_number k word out = first_of (read_conditions (unsound k) k word out)

-- the output: the pattern from its start, where nothing is refused
unfoldable pub pattern_output : ℕ → Option (List ℕ) → List ℕ → List ℕ
pattern_output number e out = cond (eqb number 0) (over (pack (found e)) out) out

unfoldable pub open_output : Bool → Key → List ℕ → List ℕ → List ℕ
open_output unpublished k capsule out =
    pattern_output (open_number unpublished k capsule out) (opening k (unpack (capsule_bits k) capsule)) out

unfoldable pub read_output : Key → List ℕ → List ℕ → List ℕ
read_output k word out = pattern_output (read_number k word out) (reading k (unpack k.n word)) out
