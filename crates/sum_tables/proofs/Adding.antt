-- Rows of bytes to which a row is added. Assumes nothing.
use mathlib.Core.Path.{◌≡◌, refl, sym, ap, ap₂, ◌∙◌}
use mathlib.Core.List.{List, [], ◌∷◌, ◌++◌, map, map-append}
use Prim.Native.Nat.{ℕ, zero, suc, ◌+◌, ◌*◌, ◌≤◌}
use native.Mathlib.Nat.{not-suc-le-zero, le_of_suc-le-suc}
use native.Mathlib.Omega.{arith}
use lib.ListN.{length, take, drop, length-drop}
use lib.Seq.{length-take-le, drop_at, drop-drop, take_at}
use Rattle.bits.specs.Bits.{bytes_for, unpack, each_with, xor_row}
use Rattle.bits.proofs.Rows.{xor_row-nil}
use Rattle.bits.proofs.Pack.{unpack-xor_row}
use Rattle.code.specs.PublicKey.{Matrix}
use Rattle.code.specs.Lock.{rows_of}
use Rattle.elimination.specs.Elimination.{moved_up}
use Rattle.code.proofs.PackedRows.{rows_snoc, rows_front, rows_add}
use Rattle.sum_tables.specs.Apart.{plus}

pub drop-xor_row : (k : ℕ) (w s : List ℕ) → length s ≤ k → drop k (xor_row w s) ≡ drop k w
unfolding xor_row each_with
drop-xor_row k w [] h = ap (drop k) (xor_row-nil w)
drop-xor_row zero w (y ∷ s) h = absurd (not-suc-le-zero h)
drop-xor_row (suc k) [] (y ∷ s) h = refl
drop-xor_row (suc k) (x ∷ w) (y ∷ s) h = drop-xor_row k w s (le_of_suc-le-suc h)

-- row r of a workspace, after r rows that are done; w₀ is the workspace before
module _ (r n at : ℕ) (p w₀ w : List ℕ) (size : length p ≡ bytes_for n) (place : at ≡ r * bytes_for n)
    (room : at + bytes_for n ≤ length w) (rest : drop at w ≡ drop at w₀) where
  front : length (take at w) ≡ at
  front = length-take-le at w (omega arith)

  pub add-next : rows_of r n w ≡ map (plus (unpack n p)) (rows_of r n w₀)
      → rows_of (r + 1) n (take at w ++ xor_row (drop at w) p) ≡ map (plus (unpack n p)) (rows_of (r + 1) n w₀)
  unfolding plus
  add-next e =
      let y : List ℕ = drop at w in
      let u : List ℕ = take at w ++ xor_row y p in
      rows_snoc r n u
      ∙ ap₂ (λ (xs : Matrix) (x : List ℕ). xs ++ (x ∷ []))
      (rows_front r n at w (xor_row y p) (omega arith) (omega arith) ∙ e)
      (ap (unpack n) (drop_at (take at w) (xor_row y p) (r * bytes_for n) (front ∙ place))
      ∙ unpack-xor_row n y p (omega (arith, length-drop at w))
      ∙ ap (λ (z : List ℕ). xor_row (unpack n z) (unpack n p)) (rest ∙ ap (λ (k : ℕ). drop k w₀) place))
      ∙ sym (ap (map (plus (unpack n p))) (rows_snoc r n w₀) ∙ map-append (plus (unpack n p)) (rows_of r n w₀) (unpack n (drop (r * bytes_for n) w₀) ∷ []))

  pub add_rest : drop (at + bytes_for n) (take at w ++ xor_row (drop at w) p) ≡ drop (at + bytes_for n) w₀
  add_rest =
      let b : ℕ = bytes_for n in
      let z : List ℕ = xor_row (drop at w) p in
      sym (drop-drop b at (take at w ++ z)) ∙ ap (drop b) (drop_at (take at w) z at front)
      ∙ drop-xor_row b (drop at w) p (omega arith) ∙ ap (drop b) rest ∙ drop-drop b at w₀

-- the first half, and what is lent behind it
module _ (half n at : ℕ) (w z : List ℕ) (place : at ≡ half * bytes_for n) (room : at + at ≤ length w) where
  front_at : length (take at w) ≡ at
  front_at = length-take-le at w (omega arith)

  pub moved_behind : rows_of half n (drop at (moved_up at at w)) ≡ rows_of half n w
  unfolding moved_up
  moved_behind =
      ap (rows_of half n) (drop_at (take at w) (take at w ++ drop (at + at) w) at front_at)
      ∙ rows_front half n at w (drop (at + at) w) (omega arith) (omega arith)

  pub both_halves : (m : Matrix) → rows_of half n z ≡ m → rows_of (half + half) n (take at (moved_up at at w) ++ z) ≡ rows_of half n w ++ m
  unfolding moved_up
  both_halves m e =
      let t : take at (moved_up at at w) ≡ take at w = take_at (take at w) (take at w ++ drop (at + at) w) at front_at in
      ap (λ (x : List ℕ). rows_of (half + half) n (x ++ z)) t
      ∙ rows_add half half n (take at w ++ z)
      ∙ ap₂ (λ (xs ys : Matrix). xs ++ ys)
      (rows_front half n at w z (omega arith) (omega arith))
      (ap (rows_of half n) (drop_at (take at w) z (half * bytes_for n) (front_at ∙ place)) ∙ e)
