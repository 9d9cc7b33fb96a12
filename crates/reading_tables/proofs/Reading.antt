-- Reads and opens at small keys, as a table of what is asked and the pattern found, proved by computation from the definitions.
-- They are cases of the vectors words/m4-K1, words/m4-K2, words/m4-K3 and words/m4-9-2-1 (key K9). Assumes nothing.
use Prim.Native.Nat.{ℕ, ◌*◌}
use mathlib.Core.Path.{◌≡◌, refl}
use mathlib.Core.List.{List, [], ◌∷◌, map, flat_map, zip_with}
use mathlib.Core.Option.{Option, none, some}
use Rattle.bits.specs.Xor.{◌⊕◌}
use Rattle.bits.specs.Bits.{from, every, bytes_for, bit_at, unpack, number, pack, ones, each_with, xor_row, dot}
use Rattle.field.specs.Field.{is_width, modulus_of, poly_mul, reduced, mul_mod, mul, power, last_below, inv}
use Rattle.field.specs.Poly.{value}
use Rattle.poly.specs.Polynomials.{same, monic}
use Rattle.key.specs.Keys.{Key, pair, elements, parse, two_bytes, file_of, goppa_at}
use Rattle.key.specs.Bench.{K1, K2, K1-with, K3}
use Rattle.code.specs.Code.{entry, in_code}
use Rattle.code.proofs.Examples.{K9}
use Rattle.decoder.specs.Search.{or_else, first_row}
use Rattle.decoder.specs.Reading.{corrects, reading, filled, exactly, opening}

-- what a row asks, with the packed word or capsule
pub data Asked : Type 0 where
  reads : Key → List ℕ → Asked
  opens_capsule : Key → List ℕ → Asked

-- the packed pattern, or none
pub data Outcome : Type 0 where
  found : List ℕ → Outcome
  nothing : Outcome

unfoldable pub packed : Option (List ℕ) → Outcome
packed none = nothing
packed (some e) = found (pack e)

unfoldable pub answer : Asked → Outcome
answer (reads k word) = packed (reading k (unpack k.n word))
answer (opens_capsule k capsule) = packed (opening k (unpack (k.m * k.t) capsule))

unfoldable pub rows : List (Asked × Outcome)
rows =
    -- words/m4-K1
    (reads (parse K1) (0x13 ∷ []), found (0x00 ∷ [])) ∷
    (reads (parse K1) (0x24 ∷ []), found (0x01 ∷ [])) ∷
    (reads (parse K1) (0x1B ∷ []), found (0x08 ∷ [])) ∷
    (reads (parse K1) (0x33 ∷ []), found (0x20 ∷ [])) ∷
    (reads (parse K1) (0x06 ∷ []), nothing) ∷
    (reads (parse K1) (0x2F ∷ []), nothing) ∷
    (opens_capsule (parse K1) (0x03 ∷ []), found (0x10 ∷ [])) ∷
    (opens_capsule (parse K1) (0x05 ∷ []), found (0x20 ∷ [])) ∷
    (opens_capsule (parse K1) (0x08 ∷ []), found (0x08 ∷ [])) ∷
    (opens_capsule (parse K1) (0x00 ∷ []), nothing) ∷
    (opens_capsule (parse K1) (0x06 ∷ []), nothing) ∷
    -- words/m4-K3, which has no public key
    (reads (parse K3) (0x29 ∷ []), found (0x00 ∷ [])) ∷
    (reads (parse K3) (0x27 ∷ []), found (0x20 ∷ [])) ∷
    (reads (parse K3) (0x1E ∷ []), nothing) ∷
    -- words/m4-9-2-1; the capsules 40 and AC have a pattern of t - 1 ones
    (reads K9 (0xAC ∷ 0x01 ∷ []), found (0x00 ∷ 0x00 ∷ [])) ∷
    (reads K9 (0xA8 ∷ 0x01 ∷ []), found (0x04 ∷ 0x00 ∷ [])) ∷
    (reads K9 (0xB4 ∷ 0x01 ∷ []), found (0x18 ∷ 0x00 ∷ [])) ∷
    (reads K9 (0x2C ∷ 0x00 ∷ []), found (0x80 ∷ 0x01 ∷ [])) ∷
    (reads K9 (0x03 ∷ 0x01 ∷ []), nothing) ∷
    (opens_capsule K9 (0x42 ∷ []), found (0x42 ∷ 0x00 ∷ [])) ∷
    (opens_capsule K9 (0x2C ∷ []), found (0x80 ∷ 0x01 ∷ [])) ∷
    (opens_capsule K9 (0x40 ∷ []), nothing) ∷
    (opens_capsule K9 (0xAC ∷ []), nothing) ∷
    -- document 01, and words/m4-K2
    (reads (parse K2) (0x03 ∷ 0x00 ∷ []), found (0x03 ∷ 0x00 ∷ [])) ∷
    (reads (parse K2) (0x98 ∷ 0x3A ∷ []), found (0x01 ∷ 0x00 ∷ [])) ∷
    (reads (parse K2) (0xF4 ∷ 0xB1 ∷ []), found (0x10 ∷ 0x10 ∷ [])) ∷
    (reads (parse K2) (0x09 ∷ 0x67 ∷ []), nothing) ∷
    (opens_capsule (parse K2) (0x05 ∷ []), found (0x05 ∷ 0x00 ∷ [])) ∷
    (opens_capsule (parse K2) (0x5C ∷ []), found (0x01 ∷ 0x10 ∷ [])) ∷ []

pub rows_hold : map (λ r. answer r.0) rows ≡ map (λ r. r.1) rows
unfolding ◌⊕◌ from every bytes_for bit_at unpack number pack ones each_with xor_row dot is_width modulus_of poly_mul reduced mul_mod mul power last_below inv value same monic pair elements parse two_bytes file_of goppa_at K1 K2 K1-with K3 entry in_code K9 or_else first_row corrects reading filled exactly opening packed answer rows flat_map zip_with
rows_hold = refl
