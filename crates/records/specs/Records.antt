-- Request L1, 'Import report': a record byte for each capsule of a buffer, and how often each byte value stands in the records.
-- Assumes nothing.
use Rattle.std.specs.Prelude.{ℕ, zero, suc, ◌+◌, Bool, cond, not, List, [], ◌∷◌, map, eqb, ltb, length, take, drop, replicate}
use Rattle.bits.specs.Bits.{from, bytes_for, unpack, filler_clear, over}
use Rattle.field.specs.Numbers.{first_of}
use Rattle.key.specs.Keys.{Key, unsound, reducible}
use Rattle.code.specs.Publish.{capsule_bits}
use Rattle.decoder.specs.Reading.{opening}
use Rattle.decoder.specs.Calls.{is_none}

-- at most k parts of c bytes, back to back; the last may be shorter
unfoldable pub cut : ℕ → ℕ → List ℕ → List (List ℕ)
cut zero c l = []
cut (suc k) c [] = []
cut (suc k) c (b ∷ l) = take c (b ∷ l) ∷ cut k c (drop c (b ∷ l))

-- the capsules of a buffer; a short tail is the last of them
unfoldable pub capsules_of : Key → List ℕ → List (List ℕ)
capsules_of k buffer = cut (length buffer) (bytes_for (capsule_bits k)) buffer

-- 8, 9, 13: those of open's conditions that concern the capsule
unfoldable pub capsule_conditions : Key → List ℕ → List (Bool × ℕ)
capsule_conditions k capsule =
    (not (eqb (length capsule) (bytes_for (capsule_bits k))), 8) ∷
    (not (filler_clear (capsule_bits k) capsule), 9) ∷
    (is_none (opening k (unpack (capsule_bits k) capsule)), 13) ∷ []

-- the record of a capsule: 0 where it is opened, else its refusal's number
unfoldable pub record_of : Key → List ℕ → ℕ
record_of k capsule = first_of (capsule_conditions k capsule)

-- a record for each capsule of a buffer
unfoldable pub records_of : Key → List ℕ → List ℕ
records_of k buffer = map (record_of k) (capsules_of k buffer)

-- how often a value stands in a list
unfoldable pub occurrences : ℕ → List ℕ → ℕ
occurrences v [] = 0
occurrences v (x ∷ l) = cond (eqb x v) 1 0 + occurrences v l

-- how often each of the 256 byte values does
unfoldable pub counts_of : List ℕ → List ℕ
counts_of records = map (λ v. occurrences v records) (from 0 256)

-- the sum of the numbers of a list
unfoldable pub total : List ℕ → ℕ
total [] = 0
total (x ∷ l) = x + total l

-- 25, 34, 24, 31 for a record buffer of len bytes
unfoldable pub report_conditions : Bool → Bool → Key → List ℕ → ℕ → List (Bool × ℕ)
report_conditions bad unpublished k buffer len =
    (bad, 25) ∷ (reducible k, 34) ∷ (unpublished, 24) ∷ (ltb len (length (capsules_of k buffer)), 31) ∷ []

-- the number for a kept key
unfoldable pub report_number : Bool → Key → List ℕ → List ℕ → ℕ
report_number unpublished k buffer records = first_of (report_conditions (unsound k) unpublished k buffer (length records))

-- the records from the record buffer's start, where nothing is refused
unfoldable pub report_output : Bool → Key → List ℕ → List ℕ → List ℕ
report_output unpublished k buffer records =
    cond (eqb (report_number unpublished k buffer records) 0) (over (records_of k buffer) records) records

-- the counts; zeros where it is refused
unfoldable pub report_counts : Bool → Key → List ℕ → List ℕ → List ℕ
report_counts unpublished k buffer records =
    cond (eqb (report_number unpublished k buffer records) 0) (counts_of (records_of k buffer)) (replicate 256 0)
