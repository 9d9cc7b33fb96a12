-- The first row with a one in a column: where it stands, and the rows with it taken out. Assumes nothing.
use mathlib.Core.Path.{◌≡◌, refl, sym, ap, ap₂, ◌∙◌}
use mathlib.Core.Bool.{Bool, true, false, cond}
use mathlib.Core.List.{List, [], ◌∷◌, ◌++◌}
use Prim.Native.Nat.{ℕ, zero, suc, ◌+◌, ◌-◌, ◌*◌, ◌≤◌, ◌<◌}
use native.Mathlib.Omega.{arith}
use lib.Dec.{eqb}
use lib.ListN.{length, get_or, take, drop, length-drop}
use lib.Seq.{length-take-le, drop_at, drop-drop}
use borrow.Author.Tests.{eq-eqb, ne_eqb}
use Rattle.bits.specs.Bits.{bytes_for, bit_at, unpack}
use Rattle.bits.proofs.Pack.{unpack-at, unpack-take}
use Rattle.bits.proofs.Parts.{rows_in}
use Rattle.code.specs.PublicKey.{Matrix, Pivot, missing, pivot, with_row, find_pivot}
use Rattle.code.specs.Lock.{rows_of}
use Rattle.elimination.specs.Elimination.{pivot_row, to_front, first_row}
use Rattle.code.proofs.PackedRows.{length_rows, rows_add, rows_cons, rows_front, unpack-append}

-- the row with number p taken out of the rows
unfoldable taken_out : ℕ → Matrix → Pivot
taken_out p [] = missing
taken_out zero (r ∷ rs) = pivot r rs
taken_out (suc p) (r ∷ rs) = with_row r (taken_out p rs)

find_taken : (j : ℕ) (rs : Matrix) → find_pivot j rs ≡ taken_out (pivot_row j rs) rs
unfolding find_pivot pivot_row taken_out
find_taken j [] = refl
find_taken j (r ∷ rs) = go (eqb (get_or r j 0) 1) (find_taken j rs)
  where
    go : (b : Bool) → find_pivot j rs ≡ taken_out (pivot_row j rs) rs
        → cond b (pivot r rs) (with_row r (find_pivot j rs)) ≡ taken_out (cond b 0 (suc (pivot_row j rs))) (r ∷ rs)
    go true e = refl
    go false e = ap (with_row r) e

taken_append : (a : Matrix) (r : List ℕ) (c : Matrix) → taken_out (length a) (a ++ r ∷ c) ≡ pivot r (a ++ c)
unfolding taken_out with_row
taken_append [] r c = refl
taken_append (x ∷ a) r c = ap (with_row x) (taken_append a r c)

taken_past : (rs : Matrix) → taken_out (length rs) rs ≡ missing
unfolding taken_out with_row
taken_past [] = refl
taken_past (r ∷ rs) = ap (with_row r) (taken_past rs)

pivot_row-le : (j : ℕ) (rs : Matrix) → pivot_row j rs ≤ length rs
unfolding pivot_row
pivot_row-le j [] = omega arith
pivot_row-le j (r ∷ rs) = go (eqb (get_or r j 0) 1) (pivot_row-le j rs)
  where
    go : (b : Bool) → pivot_row j rs ≤ length rs → cond b 0 (suc (pivot_row j rs)) ≤ suc (length rs)
    go true h = omega arith
    go false h = omega arith

-- among the rows from row r on of a workspace: it is the first of them, or one of the others
module _ (rows r n j : ℕ) (w : List ℕ) (h : r < rows) (l : j < n) where
  rows_left : rows_of (rows - r) n w ≡ unpack n w ∷ rows_of (rows - (r + 1)) n (drop (bytes_for n) w)
  rows_left =
      let e : rows - r ≡ suc (rows - (r + 1)) = omega arith in
      ap (λ (k : ℕ). rows_of k n w) e ∙ rows_cons (rows - (r + 1)) n w

  pub pivot_here : bit_at w j ≡ 1 → pivot_row j (rows_of (rows - r) n w) ≡ 0
  unfolding pivot_row
  pivot_here e = ap (pivot_row j) rows_left ∙ rw (eq-eqb (get_or (unpack n w) j 0) 1 (unpack-at n w j 0 l ∙ e))

  pub pivot_later : (bit_at w j ≡ 1 → ⊥) → pivot_row j (rows_of (rows - r) n w) ≡ suc (pivot_row j (rows_of (rows - (r + 1)) n (drop (bytes_for n) w)))
  unfolding pivot_row
  pivot_later e = ap (pivot_row j) rows_left ∙ rw (ne_eqb (get_or (unpack n w) j 0) 1 (λ f. e (sym (unpack-at n w j 0 l) ∙ f)))

-- the pivot's row moved to the front of the workspace, or there is none
module _ (rows n j : ℕ) (w : List ℕ) where
  pub lift_none : pivot_row j (rows_of rows n w) ≡ rows → find_pivot j (rows_of rows n w) ≡ missing
  lift_none e =
      find_taken j (rows_of rows n w)
      ∙ ap (λ (p : ℕ). taken_out p (rows_of rows n w)) (e ∙ sym (length_rows rows n w))
      ∙ taken_past (rows_of rows n w)

  pub pivot_le : pivot_row j (rows_of rows n w) ≤ rows
  pivot_le = omega (arith, pivot_row-le j (rows_of rows n w), length_rows rows n w)

  pub lift_some : (p : ℕ) → p ≡ pivot_row j (rows_of rows n w) → p < rows → rows * bytes_for n ≤ length w
      → find_pivot j (rows_of rows n w) ≡ first_row true rows n (to_front (p * bytes_for n) (bytes_for n) w)
  unfolding first_row to_front
  lift_some p e h l =
      let b : ℕ = bytes_for n in
      let k : ℕ = p * b in
      let q : ℕ = rows - (p + 1) in
      let room : k + b ≤ length w = omega (arith, rows_in p rows b h) in
      let row : List ℕ = unpack n (drop k w) in
      let after : Matrix = rows_of q n (drop b (drop k w)) in
      let one : List ℕ = take b (drop k w) in
      let two : List ℕ = take k w ++ drop (k + b) w in
      let long : length one ≡ b = length-take-le b (drop k w) (omega (arith, length-drop k w)) in
      let front : length (take k w) ≡ k = length-take-le k w (omega arith) in
      let here : find_pivot j (rows_of rows n w) ≡ pivot row (rows_of p n w ++ after) =
      find_taken j (rows_of rows n w)
      ∙ ap₂ taken_out (sym e ∙ sym (length_rows p n w))
      (ap (λ (i : ℕ). rows_of i n w) (omega arith) ∙ rows_add p (suc q) n w ∙ ap (λ (xs : Matrix). rows_of p n w ++ xs) (rows_cons q n (drop k w)))
      ∙ taken_append (rows_of p n w) row after in
      let there : rows_of (rows - 1) n (drop b (one ++ two)) ≡ rows_of p n w ++ after =
      ap₂ (λ (i : ℕ) (s : List ℕ). rows_of i n s) (omega arith) (drop_at one two b long)
      ∙ rows_add p q n two
      ∙ ap₂ (λ (x y : Matrix). x ++ y) (rows_front p n k w (drop (k + b) w) (omega arith) (omega arith))
      (ap (rows_of q n) (drop_at (take k w) (drop (k + b) w) k front ∙ sym (drop-drop b k w))) in
      here
      ∙ ap₂ pivot
      (sym (unpack-append n one two (omega arith) ∙ unpack-take n b (drop k w) (omega arith)))
      (sym there)
