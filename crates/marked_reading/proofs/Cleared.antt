-- The bits of rows whose marked bits are cleared, or filled. Assumes nothing.
use mathlib.Core.Path.{◌≡◌, refl, sym, ap, ◌∙◌}
use mathlib.Core.Bool.{Bool, true, false}
use mathlib.Core.List.{List, [], ◌∷◌, map}
use Prim.Native.Nat.{ℕ, zero, suc, ◌/◌, ◌%◌, ◌+◌, ◌^◌, ◌≤◌}
use lib.Bits.{bit_and, and_zero_r, and_shr, and_mod}
use lib.ListN.{length, get_or, replicate, length-replicate}
use Rattle.bits.specs.Xor.{◌⊕◌}
use Rattle.bits.specs.Bits.{from, bit_at, unpack, each_with, xor_row}
use Rattle.bits.proofs.Lists.{cons_eq, map-from}
use Rattle.bits.proofs.Xor.{Digit, off, on, low, zero_xor, xor-zero, xor_shr, xor_mod}
use Rattle.bits.proofs.Bits.{bit_zeros}
use Rattle.bits.proofs.Each.{length-each_with}
use Rattle.bits.proofs.Rows.{length-xor_row, bit_xor_row}
use Rattle.bits.proofs.Pack.{unpack_ext, unpack-xor_row}
use Rattle.marks.specs.Marked.{steady, unmarked}
use Rattle.marks.specs.Tries.{with_marked}
use Rattle.marked_reading.specs.Parts.{steady_byte, cleared, filled_row}

-- a byte without marks, and no byte
byte_unmarked : (b : ℕ) → steady_byte b 0 ≡ b
unfolding steady_byte
byte_unmarked b = ap (◌⊕◌ b) (and_zero_r b) ∙ xor-zero b

byte_none : (z : ℕ) → steady_byte 0 z ≡ 0
unfolding steady_byte
byte_none z = zero_xor 0

-- a bit of a byte
digit_steady : {x y : ℕ} → Digit x → Digit y → x ⊕ bit_and x y ≡ steady x y
unfolding steady ◌⊕◌
digit_steady off off = refl
digit_steady off on = refl
digit_steady on off = refl
digit_steady on on = refl

byte_digit : (b z i : ℕ) → steady_byte b z / 2 ^ i % 2 ≡ steady (b / 2 ^ i % 2) (z / 2 ^ i % 2)
unfolding steady_byte
byte_digit b z i =
    ap (◌% 2) (xor_shr b (bit_and b z) i ∙ ap (◌⊕◌ (b / 2 ^ i)) (and_shr b z i))
    ∙ xor_mod (b / 2 ^ i) (bit_and (b / 2 ^ i) (z / 2 ^ i)) 1
    ∙ ap (◌⊕◌ (b / 2 ^ i % 2)) (and_mod (b / 2 ^ i) (z / 2 ^ i) 1)
    ∙ digit_steady (low (b / 2 ^ i)) (low (z / 2 ^ i))

pub length-cleared : (row marks : List ℕ) → length (cleared row marks) ≡ length row
unfolding cleared
length-cleared = length-each_with steady_byte

cleared_at : (row marks : List ℕ) (j : ℕ) → get_or (cleared row marks) j 0 ≡ steady_byte (get_or row j 0) (get_or marks j 0)
unfolding cleared each_with
cleared_at [] marks j = sym (byte_none (get_or marks j 0))
cleared_at (b ∷ row) [] j = sym (byte_unmarked (get_or (b ∷ row) j 0))
cleared_at (b ∷ row) (z ∷ marks) zero = refl
cleared_at (b ∷ row) (z ∷ marks) (suc j) = cleared_at row marks j

bit_cleared : (row marks : List ℕ) (i : ℕ) → bit_at (cleared row marks) i ≡ steady (bit_at row i) (bit_at marks i)
unfolding bit_at
bit_cleared row marks i =
    ap (λ (b : ℕ). b / 2 ^ (i % 8) % 2) (cleared_at row marks (i / 8))
    ∙ byte_digit (get_or row (i / 8) 0) (get_or marks (i / 8) 0) (i % 8)

unmarked-map : (f g : ℕ → ℕ) (l : List ℕ) → unmarked (map g l) (map f l) ≡ map (λ i. steady (f i) (g i)) l
unfolding unmarked each_with
unmarked-map f g [] = refl
unmarked-map f g (x ∷ l) = cons_eq refl (unmarked-map f g l)

-- on the lists of bits; a mark past the end is 0
pub unpack-cleared : (n : ℕ) (row marks : List ℕ) → unpack n (cleared row marks) ≡ unmarked (unpack n marks) (unpack n row)
unfolding unpack
unpack-cleared n row marks =
    map-from (bit_at (cleared row marks)) (λ i. steady (bit_at row i) (bit_at marks i)) 0 0 n (λ i l. bit_cleared row marks (0 + i))
    ∙ sym (unmarked-map (bit_at row) (bit_at marks) (from 0 n))

-- the word in 1024 bytes, and its bits where it has at most so many
module _ (word marks : List ℕ) where
  zeros_filled : length (cleared (xor_row (replicate 1024 0) word) marks) ≡ 1024
  zeros_filled =
      length-cleared (xor_row (replicate 1024 0) word) marks ∙ length-xor_row (replicate 1024 0) word ∙ length-replicate {A = ℕ} 1024 0

  pub length-filled : (one : Bool) → length (filled_row one word marks) ≡ 1024
  unfolding filled_row
  length-filled false = zeros_filled
  length-filled true = length-xor_row (cleared (xor_row (replicate 1024 0) word) marks) marks ∙ zeros_filled

  module _ (n : ℕ) (h : length word ≤ 1024) (l : length marks ≤ 1024) where
    unpack_word : unpack n (xor_row (replicate 1024 0) word) ≡ unpack n word
    unpack_word =
        unpack_ext n (xor_row (replicate 1024 0) word) word
        (λ i b. bit_xor_row (replicate 1024 0) word i (rw (length-replicate {A = ℕ} 1024 0) h)
        ∙ ap (λ (x : ℕ). x ⊕ bit_at word i) (bit_zeros 1024 i) ∙ zero_xor (bit_at word i))

    unpack_zeros : unpack n (cleared (xor_row (replicate 1024 0) word) marks) ≡ unmarked (unpack n marks) (unpack n word)
    unpack_zeros = unpack-cleared n (xor_row (replicate 1024 0) word) marks ∙ ap (unmarked (unpack n marks)) unpack_word

    pub unpack-filled : (one : Bool) → unpack n (filled_row one word marks) ≡ with_marked one (unpack n word) (unpack n marks)
    unfolding filled_row with_marked
    unpack-filled false = unpack_zeros
    unpack-filled true =
        unpack-xor_row n (cleared (xor_row (replicate 1024 0) word) marks) marks (rw zeros_filled l)
        ∙ ap (λ (r : List ℕ). xor_row r (unpack n marks)) unpack_zeros
