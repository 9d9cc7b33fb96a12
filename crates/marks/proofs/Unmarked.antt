-- Rows by their marked and unmarked places: the bits kept, and how many differ. Assumes nothing.
use mathlib.Core.Path.{◌≡◌, refl}
use mathlib.Core.List.{List, [], ◌∷◌}
use Prim.Native.Nat.{ℕ, zero, suc, ◌+◌, ◌*◌, ◌≤◌}
use native.Mathlib.Nat.{le_refl}
use native.Mathlib.Omega.{arith}
use lib.ListN.{length}
use Rattle.bits.specs.Xor.{◌⊕◌}
use Rattle.bits.specs.Bits.{Row, end, off, on, ones, each_with, xor_row}
use Rattle.bits.proofs.Each.{length-each_with}
use Rattle.bits.proofs.Lists.{cons_eq}
use Rattle.marks.specs.Marked.{steady, unmarked, differences}

pub length-unmarked : (z e : List ℕ) → length (unmarked z e) ≡ length e
unfolding unmarked
length-unmarked z e = length-each_with steady e z

pub row_unmarked : {n : ℕ} {e z : List ℕ} → Row n e → Row n z → Row n (unmarked z e)
unfolding unmarked each_with steady
row_unmarked end end = end
row_unmarked (off a) (off b) = off (row_unmarked a b)
row_unmarked (off a) (on b) = off (row_unmarked a b)
row_unmarked (on a) (off b) = on (row_unmarked a b)
row_unmarked (on a) (on b) = off (row_unmarked a b)

-- without marks nothing is left out
pub unmarked_all : (e z : List ℕ) → ones z ≡ 0 → unmarked z e ≡ e
unfolding unmarked each_with steady ones
unmarked_all [] z h = refl
unmarked_all (x ∷ e) [] h = refl
unmarked_all (x ∷ e) (zero ∷ z) h = cons_eq refl (unmarked_all e z (omega arith))
unmarked_all (x ∷ e) (suc y ∷ z) h = absurd (omega arith)

-- two patterns differ where one of them is 1 at an unmarked place, or at marked places
pub ones_apart : {n : ℕ} {e d z : List ℕ} → Row n e → Row n d → Row n z → ones (xor_row e d) ≤ differences z e + differences z d + ones z
unfolding differences unmarked ones xor_row each_with steady ◌⊕◌
ones_apart end end end = le_refl 0
ones_apart (off a) (off b) (off c) = let h = ones_apart a b c in omega arith
ones_apart (off a) (off b) (on c) = let h = ones_apart a b c in omega arith
ones_apart (off a) (on b) (off c) = let h = ones_apart a b c in omega arith
ones_apart (off a) (on b) (on c) = let h = ones_apart a b c in omega arith
ones_apart (on a) (off b) (off c) = let h = ones_apart a b c in omega arith
ones_apart (on a) (off b) (on c) = let h = ones_apart a b c in omega arith
ones_apart (on a) (on b) (off c) = let h = ones_apart a b c in omega arith
ones_apart (on a) (on b) (on c) = let h = ones_apart a b c in omega arith

-- The word with its marked bits 0 and with them 1: at a marked place one of the two differs from w + e, at an unmarked place both
-- do or none.
pub ones-filled : {n : ℕ} {w e z : List ℕ} → Row n w → Row n e → Row n z
    → ones (xor_row (unmarked z w) (xor_row w e)) + ones (xor_row (xor_row (unmarked z w) z) (xor_row w e)) ≡ 2 * differences z e + ones z
unfolding differences unmarked ones xor_row each_with steady ◌⊕◌
ones-filled end end end = refl
ones-filled (off a) (off b) (off c) = let h = ones-filled a b c in omega arith
ones-filled (off a) (off b) (on c) = let h = ones-filled a b c in omega arith
ones-filled (off a) (on b) (off c) = let h = ones-filled a b c in omega arith
ones-filled (off a) (on b) (on c) = let h = ones-filled a b c in omega arith
ones-filled (on a) (off b) (off c) = let h = ones-filled a b c in omega arith
ones-filled (on a) (off b) (on c) = let h = ones-filled a b c in omega arith
ones-filled (on a) (on b) (off c) = let h = ones-filled a b c in omega arith
ones-filled (on a) (on b) (on c) = let h = ones-filled a b c in omega arith
