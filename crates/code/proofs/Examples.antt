-- Public keys, locks, code words and rows of H at small keys, as a table of what is asked and the outcome, proved by computation
-- from the definitions. The keys, public keys, accepted locks and code words are those of the vectors words/m4-K1, words/m4-K2,
-- words/m4-K3 and words/m4-9-2-1; the rows of H and the refusals in their order were worked out apart. Assumes nothing.
use Prim.Native.Nat.{ℕ, zero, suc}
use mathlib.Core.Path.{◌≡◌, refl}
use mathlib.Core.Bool.{Bool, true, false, cond}
use mathlib.Core.List.{List, [], ◌∷◌, map, flat_map, zip_with}
use Rattle.bits.specs.Xor.{◌⊕◌}
use Rattle.bits.specs.Bits.{from, every, bytes_for, bit_at, unpack, number, pack, ones, weight, filler_clear, each_with, xor_row, dot}
use Rattle.field.specs.Numbers.{first_of}
use Rattle.field.specs.Field.{is_width, modulus_of, poly_mul, reduced, mul_mod, mul, power, last_below, inv}
use Rattle.field.specs.Poly.{value}
use Rattle.poly.specs.Polynomials.{same, monic}
use Rattle.key.specs.Shapes.{in_limits}
use Rattle.key.specs.Keys.{Key, pair, elements, parse, two_bytes, file_of, goppa_at}
use Rattle.key.specs.Bench.{K1, K2, K1-with, K3}
use Rattle.code.specs.Code.{entry, in_code, parity_row, parity_rows}
use Rattle.code.specs.PublicKey.{with_row, find_pivot, clear, with_pivot, columns, echelon, public_key, dependent, written}
use Rattle.code.specs.Lock.{locked, row_of, rows_of, lock_number, lock}

-- words/m4-9-2-1
unfoldable pub K9 : Key
K9 = record { m = 4; n = 9; t = 2; support = 12 ∷ 13 ∷ 6 ∷ 9 ∷ 8 ∷ 7 ∷ 5 ∷ 3 ∷ 1 ∷ []; g = 15 ∷ 10 ∷ [] }

-- what a row asks: a key's public key; a lock under a shape and a public key, into an output; whether a word is in the code; a
-- row of H, packed
pub data Asked : Type 0 where
  public_key_lem : Key → Asked
  locks : ℕ → ℕ → ℕ → List ℕ → List ℕ → List ℕ → Asked
  in_code_lem : Key → List ℕ → Asked
  row_of_H : Key → ℕ → Asked

pub data Outcome : Type 0 where
  bytes : List ℕ → Outcome
  refused : ℕ → Outcome
  is : Bool → Outcome

unfoldable pub outcome : ℕ → List ℕ → Outcome
outcome zero out = bytes out
outcome (suc n) out = refused (suc n)

unfoldable pub answer : Asked → Outcome
answer (public_key_lem k) = outcome (cond (dependent k) 23 0) (written (public_key k))
answer (locks m n t public pattern out) = outcome (lock_number m n t public pattern out) (lock m n t public pattern)
answer (in_code_lem k word) = is (in_code k (unpack k.n word))
answer (row_of_H k r) = bytes (pack (parity_row k r))

-- public keys, as in words
unfoldable pub T1 : List ℕ
T1 = 0x03 ∷ 0x01 ∷ 0x02 ∷ 0x00 ∷ []

unfoldable pub T2 : List ℕ
T2 = 0x9B ∷ 0x67 ∷ 0x74 ∷ 0xB8 ∷ 0x5E ∷ 0xAD ∷ 0xD2 ∷ 0xE1 ∷ []

unfoldable pub T9 : List ℕ
T9 = 0x00 ∷ 0x00 ∷ 0x01 ∷ 0x01 ∷ 0x00 ∷ 0x01 ∷ 0x00 ∷ 0x01 ∷ []

unfoldable pub rows : List (Asked × Outcome)
rows =
    (public_key_lem (parse K1), bytes T1) ∷
    (public_key_lem (parse K2), bytes T2) ∷
    (public_key_lem (parse K3), refused 23) ∷
    (public_key_lem K9, bytes T9) ∷
    -- locks under K1's public key
    (locks 4 6 1 T1 (0x01 ∷ []) (0 ∷ []), bytes (0x01 ∷ [])) ∷
    (locks 4 6 1 T1 (0x02 ∷ []) (0 ∷ []), bytes (0x02 ∷ [])) ∷
    (locks 4 6 1 T1 (0x04 ∷ []) (0 ∷ []), bytes (0x04 ∷ [])) ∷
    (locks 4 6 1 T1 (0x08 ∷ []) (0 ∷ []), bytes (0x08 ∷ [])) ∷
    (locks 4 6 1 T1 (0x10 ∷ []) (0 ∷ []), bytes (0x03 ∷ [])) ∷
    (locks 4 6 1 T1 (0x20 ∷ []) (0 ∷ []), bytes (0x05 ∷ [])) ∷
    -- K2's and K9's
    (locks 4 16 2 T2 (0x01 ∷ 0x10 ∷ []) (0 ∷ []), bytes (0x5C ∷ [])) ∷
    (locks 4 16 2 T2 (0x01 ∷ 0x80 ∷ []) (0 ∷ []), bytes (0xE8 ∷ [])) ∷
    (locks 4 16 2 T2 (0x09 ∷ 0x00 ∷ []) (0 ∷ []), bytes (0x09 ∷ [])) ∷
    (locks 4 16 2 T2 (0x00 ∷ 0x10 ∷ []) (0 ∷ []), refused 12) ∷
    (locks 4 9 2 T9 (0x80 ∷ 0x01 ∷ []) (0 ∷ []), bytes (0x2C ∷ [])) ∷
    (locks 4 9 2 T9 (0x00 ∷ 0x01 ∷ []) (0 ∷ []), refused 12) ∷
    -- refusals in their order: where it can, each meets the later conditions too
    (locks 5 0 0 [] [] [], refused 1) ∷
    (locks 4 4 1 [] [] [], refused 3) ∷
    (locks 4 17 1 [] [] [], refused 3) ∷
    (locks 4 6 1 T1 (0x40 ∷ 0x00 ∷ []) [], refused 8) ∷
    (locks 4 6 1 (0x0F ∷ 0x01 ∷ 0x02 ∷ []) (0x40 ∷ []) [], refused 8) ∷
    (locks 4 6 1 T1 (0x40 ∷ []) [], refused 9) ∷
    (locks 4 6 1 T1 (0x50 ∷ []) (0 ∷ []), refused 9) ∷
    (locks 4 6 1 (0x03 ∷ 0x01 ∷ 0x06 ∷ 0x00 ∷ []) (0x10 ∷ []) (0 ∷ []), refused 9) ∷
    (locks 4 6 1 T1 (0x00 ∷ []) [], refused 12) ∷
    (locks 4 6 1 T1 (0x30 ∷ []) [], refused 12) ∷
    (locks 4 6 1 T1 (0x10 ∷ []) [], refused 10) ∷
    -- code words, and words one or two places away from one
    (in_code_lem (parse K1) (0x00 ∷ []), is true) ∷
    (in_code_lem (parse K1) (0x13 ∷ []), is true) ∷
    (in_code_lem (parse K1) (0x25 ∷ []), is true) ∷
    (in_code_lem (parse K1) (0x24 ∷ []), is false) ∷
    (in_code_lem (parse K1) (0x06 ∷ []), is false) ∷
    (in_code_lem (parse K2) (0xAE ∷ 0x20 ∷ []), is true) ∷
    (in_code_lem (parse K2) (0xCD ∷ 0xEE ∷ []), is true) ∷
    (in_code_lem (parse K2) (0x01 ∷ 0x00 ∷ []), is false) ∷
    (in_code_lem (parse K2) (0x03 ∷ 0x00 ∷ []), is false) ∷
    (in_code_lem (parse K3) (0x29 ∷ []), is true) ∷
    (in_code_lem K9 (0xAC ∷ 0x01 ∷ []), is true) ∷
    (in_code_lem K9 (0xA8 ∷ 0x01 ∷ []), is false) ∷
    -- rows of H
    (row_of_H (parse K1) 0, bytes (0x31 ∷ [])) ∷
    (row_of_H (parse K1) 3, bytes (0x08 ∷ [])) ∷
    (row_of_H (parse K2) 0, bytes (0x0F ∷ 0x30 ∷ [])) ∷
    (row_of_H (parse K2) 1, bytes (0xCF ∷ 0x03 ∷ [])) ∷
    (row_of_H (parse K2) 7, bytes (0xE2 ∷ 0xF9 ∷ [])) ∷
    (row_of_H K9 4, bytes (0x1A ∷ 0x01 ∷ [])) ∷ []

pub rows_hold : map (λ r. answer r.0) rows ≡ map (λ r. r.1) rows
unfolding ◌⊕◌ from every bytes_for bit_at unpack number pack ones weight filler_clear each_with xor_row dot first_of is_width modulus_of poly_mul reduced mul_mod mul power last_below inv value same monic in_limits pair elements parse two_bytes file_of goppa_at K1 K2 K1-with K3 entry in_code parity_row parity_rows with_row find_pivot clear with_pivot columns echelon public_key dependent written locked row_of rows_of lock_number lock K9 outcome answer T1 T2 T9 rows flat_map zip_with
rows_hold = refl
