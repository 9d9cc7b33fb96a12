-- Marked readings at small keys, as a table of what is asked and what is answered, proved by computation from the definitions.
-- They are lines of the vectors words/m4-K1, words/m4-K2, words/m4-K3 and words/m4-9-2-1 (key K9). Assumes nothing.
use Prim.Native.Nat.{ℕ}
use mathlib.Core.Path.{◌≡◌, refl}
use mathlib.Core.List.{List, [], ◌∷◌, map, flat_map, zip_with}
use mathlib.Core.Option.{Option, none, some}
use Rattle.bits.specs.Xor.{◌⊕◌}
use Rattle.bits.specs.Bits.{from, every, bytes_for, bit_at, unpack, number, pack, ones, each_with, xor_row, dot}
use Rattle.field.specs.Field.{is_width, modulus_of, poly_mul, reduced, mul_mod, mul, power, last_below, inv}
use Rattle.field.specs.Poly.{value}
use Rattle.poly.specs.Polynomials.{monic}
use Rattle.key.specs.Keys.{Key, pair, elements, parse, two_bytes, file_of, goppa_at}
use Rattle.key.specs.Bench.{K1, K2, K1-with, K3}
use Rattle.code.specs.Code.{entry, in_code}
use Rattle.code.proofs.Examples.{K9}
use Rattle.decoder.specs.Search.{or_else, first_row}
use Rattle.marks.specs.Marked.{steady, unmarked, differences, corrects_marked, marked_reading}

-- the packed word and its packed marks
pub data Asked : Type 0 where
  asked : Key → List ℕ → List ℕ → Asked

-- the packed pattern and d, or none
pub data Outcome : Type 0 where
  gives : List ℕ → ℕ → Outcome
  nothing : Outcome

unfoldable pub packed : List ℕ → Option (List ℕ) → Outcome
packed z none = nothing
packed z (some e) = gives (pack e) (differences z e)

unfoldable pub answer : Asked → Outcome
answer (asked k word marks) = packed (unpack k.n marks) (marked_reading k (unpack k.n word) (unpack k.n marks))

unfoldable pub rows : List (Asked × Outcome)
rows =
    -- words/m4-K1
    (asked (parse K1) (0x13 ∷ []) (0x00 ∷ []), gives (0x00 ∷ []) 0) ∷
    (asked (parse K1) (0x20 ∷ []) (0x00 ∷ []), gives (0x20 ∷ []) 1) ∷
    (asked (parse K1) (0x30 ∷ []) (0x00 ∷ []), nothing) ∷
    (asked (parse K1) (0x13 ∷ []) (0x02 ∷ []), gives (0x00 ∷ []) 0) ∷
    (asked (parse K1) (0x08 ∷ []) (0x08 ∷ []), gives (0x08 ∷ []) 0) ∷
    (asked (parse K1) (0x26 ∷ []) (0x01 ∷ []), nothing) ∷
    (asked (parse K1) (0x13 ∷ []) (0x30 ∷ []), gives (0x00 ∷ []) 0) ∷
    (asked (parse K1) (0x03 ∷ []) (0x11 ∷ []), gives (0x10 ∷ []) 0) ∷
    (asked (parse K1) (0x05 ∷ []) (0x14 ∷ []), nothing) ∷
    (asked (parse K1) (0x0C ∷ []) (0x29 ∷ []), nothing) ∷
    (asked (parse K1) (0x16 ∷ []) (0x27 ∷ []), nothing) ∷
    -- words/m4-K3, which has no public key
    (asked (parse K3) (0x21 ∷ []) (0x00 ∷ []), gives (0x08 ∷ []) 1) ∷
    (asked (parse K3) (0x0E ∷ []) (0x20 ∷ []), gives (0x20 ∷ []) 0) ∷
    (asked (parse K3) (0x26 ∷ []) (0x18 ∷ []), gives (0x08 ∷ []) 0) ∷
    (asked (parse K3) (0x02 ∷ []) (0x21 ∷ []), nothing) ∷
    -- words/m4-9-2-1
    (asked K9 (0x88 ∷ 0x01 ∷ []) (0x00 ∷ 0x00 ∷ []), gives (0x24 ∷ 0x00 ∷ []) 2) ∷
    (asked K9 (0xAC ∷ 0x01 ∷ []) (0x02 ∷ 0x00 ∷ []), gives (0x00 ∷ 0x00 ∷ []) 0) ∷
    (asked K9 (0x00 ∷ 0x01 ∷ []) (0x00 ∷ 0x01 ∷ []), gives (0x00 ∷ 0x01 ∷ []) 0) ∷
    (asked K9 (0x80 ∷ 0x00 ∷ []) (0x02 ∷ 0x00 ∷ []), gives (0x80 ∷ 0x00 ∷ []) 1) ∷
    (asked K9 (0xA5 ∷ 0x01 ∷ []) (0x01 ∷ 0x00 ∷ []), gives (0x09 ∷ 0x00 ∷ []) 1) ∷
    (asked K9 (0xA8 ∷ 0x00 ∷ []) (0x10 ∷ 0x00 ∷ []), nothing) ∷
    (asked K9 (0xA4 ∷ 0x00 ∷ []) (0x08 ∷ 0x01 ∷ []), gives (0x08 ∷ 0x01 ∷ []) 0) ∷
    (asked K9 (0x00 ∷ 0x01 ∷ []) (0x48 ∷ 0x00 ∷ []), gives (0x00 ∷ 0x01 ∷ []) 1) ∷
    (asked K9 (0xAE ∷ 0x00 ∷ []) (0x40 ∷ 0x01 ∷ []), gives (0x02 ∷ 0x01 ∷ []) 1) ∷
    (asked K9 (0x50 ∷ 0x00 ∷ []) (0x28 ∷ 0x00 ∷ []), nothing) ∷
    (asked K9 (0xA6 ∷ 0x01 ∷ []) (0x2A ∷ 0x00 ∷ []), gives (0x0A ∷ 0x00 ∷ []) 0) ∷
    (asked K9 (0x24 ∷ 0x01 ∷ []) (0x19 ∷ 0x00 ∷ []), nothing) ∷
    (asked K9 (0x20 ∷ 0x01 ∷ []) (0x2C ∷ 0x01 ∷ []), gives (0x20 ∷ 0x01 ∷ []) 0) ∷
    (asked K9 (0xBC ∷ 0x00 ∷ []) (0x9C ∷ 0x00 ∷ []), nothing) ∷
    (asked K9 (0x38 ∷ 0x01 ∷ []) (0xB6 ∷ 0x00 ∷ []), nothing) ∷
    -- words/m4-K2
    (asked (parse K2) (0x22 ∷ 0x01 ∷ []) (0x00 ∷ 0x00 ∷ []), gives (0x81 ∷ 0x00 ∷ []) 2) ∷
    (asked (parse K2) (0xBC ∷ 0xBD ∷ []) (0x08 ∷ 0x00 ∷ []), gives (0x0A ∷ 0x00 ∷ []) 1) ∷
    (asked (parse K2) (0xC9 ∷ 0x57 ∷ []) (0xB4 ∷ 0x00 ∷ []), gives (0x84 ∷ 0x00 ∷ []) 0) ∷
    (asked (parse K2) (0xCB ∷ 0xE3 ∷ []) (0x1E ∷ 0x00 ∷ []), nothing) ∷ []

pub rows_hold : map (λ r. answer r.0) rows ≡ map (λ r. r.1) rows
unfolding ◌⊕◌ from every bytes_for bit_at unpack number pack ones each_with xor_row dot is_width modulus_of poly_mul reduced mul_mod mul power last_below inv value monic pair elements parse two_bytes file_of goppa_at K1 K2 K1-with K3 entry in_code K9 or_else first_row steady unmarked differences corrects_marked marked_reading packed answer rows flat_map zip_with
rows_hold = refl
