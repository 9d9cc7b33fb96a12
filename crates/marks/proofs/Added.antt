-- Sums of two rows of the same number of bits. Assumes nothing.
use mathlib.Core.Path.{◌≡◌, sym, ap, ◌∙◌}
use mathlib.Core.List.{List}
use Prim.Native.Nat.{ℕ}
use lib.ListN.{length}
use Rattle.bits.specs.Bits.{Row, xor_row}
use Rattle.bits.proofs.Pack.{row_length}
use Rattle.bits.proofs.Rows.{row_xor_row, xor_row_comm, xor_row_twice}

module _ {n : ℕ} {a b : List ℕ} (r : Row n a) (q : Row n b) where
  pub same_length : length a ≡ length b
  same_length = row_length r ∙ sym (row_length q)

  pub row_comm : xor_row a b ≡ xor_row b a
  row_comm = xor_row_comm a b same_length

  -- a sum with a row added again, behind or before
  pub added_back : xor_row (xor_row a b) a ≡ b
  added_back = ap (λ (x : List ℕ). xor_row x a) row_comm ∙ xor_row_twice b a

  pub added_front : xor_row a (xor_row a b) ≡ b
  added_front = xor_row_comm a (xor_row a b) (row_length r ∙ sym (row_length (row_xor_row r q))) ∙ added_back
