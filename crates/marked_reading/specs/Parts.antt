-- The terms of the tries, on packed rows as the code holds them. They need not be believed. Assumes nothing.
use Rattle.std.specs.Prelude.{Bool, true, false, cond, List, ℕ, ◌+◌, ◌*◌, leb, replicate}
use Rattle.std.specs.Int.Bits.{bit_and}
use Rattle.bits.specs.Xor.{◌⊕◌}
use Rattle.bits.specs.Bits.{unpack, weight, each_with, xor_row}
use Rattle.field.specs.declared.Verdict.{Verdict}
use Rattle.field.specs.declared.Verdict.TheVariants.{Accepted, Refused}
use Rattle.key.specs.Keys.{Key}
use Rattle.decoding.specs.Parts.{decoded_number, decoded, nothing_of, found_of}
use Rattle.decoding.specs.declared.decoding.Found.{Found}
use Rattle.marks.specs.Marked.{differences}

-- the byte with its marked bits 0
unfoldable pub steady_byte : ℕ → ℕ → ℕ
steady_byte b marks = b ⊕ bit_and b marks

-- the row with its marked bits 0
unfoldable pub cleared : List ℕ → List ℕ → List ℕ
cleared row marks = each_with steady_byte row marks

-- the word in 1024 bytes, with its marked bits 1 or 0
unfoldable pub filled_row : Bool → List ℕ → List ℕ → List ℕ
filled_row one word marks =
    let zeros : List ℕ = cleared (xor_row (replicate 1024 0) word) marks in
    cond one (xor_row zeros marks) zeros

-- the packed pattern p of n bits with d, its ones at unmarked places, where 2d + s ≤ 2t for s marks; else nothing
unfoldable pub within_found : Verdict → ℕ → ℕ → List ℕ → List ℕ → Found
within_found v n t marks p =
    let d : ℕ = differences (unpack n marks) (unpack n p) in
    cond (leb (2 * d + weight n marks) (2 * t)) (record { verdict = v; found = true; ones = d; pattern = p }) (nothing_of v)

-- what is found in the filled word, as the differences of the word from the same code word
unfoldable pub differences_found : ℕ → ℕ → List ℕ → List ℕ → List ℕ → Found → Found
differences_found n t filled word marks e =
    cond e.found (within_found e.verdict n t marks (xor_row (xor_row e.pattern filled) word)) e

-- with the marked bits 1 or 0
unfoldable pub try_found : Key → List ℕ → List ℕ → Bool → Found
try_found k word marks one =
    let f : List ℕ = filled_row one word marks in
    let w : List ℕ = unpack k.n f in
    differences_found k.n k.t f word marks (found_of (decoded_number k w) (decoded k w))

-- by its verdict, the first where it is refused or found, else the other
unfoldable pub first_found : Verdict → Found → Found → Found
first_found Accepted e other = cond e.found e other
first_found (Refused x) e other = e

-- with the marked bits 0, else with them 1
unfoldable pub marked_found : Key → List ℕ → List ℕ → Found
marked_found k word marks =
    let e : Found = try_found k word marks false in
    let other : Found = try_found k word marks true in
    first_found e.verdict e other
