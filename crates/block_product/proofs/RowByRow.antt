-- Rows of w bits one behind another in a list of bytes, worked on one after the other. Assumes nothing.
use mathlib.Core.Path.{◌≡◌, sym, ap, ◌∙◌}
use mathlib.Core.List.{List, ◌++◌}
use Prim.Native.Nat.{ℕ, ◌+◌, ◌*◌, ◌≤◌, ◌<◌}
use native.Mathlib.Decide.{dec_lt}
use native.Mathlib.Omega.{arith}
use lib.ListN.{length, take, drop, length-drop, take-append-drop}
use lib.Seq.{length-take-le, drop_at, drop-drop, drop-append-le}
use Rattle.bits.specs.Bits.{bytes_for, unpack}
use Rattle.bits.proofs.Parts.{rows_in}
use Rattle.code.proofs.PackedRows.{unpack-append}

-- a row in front of what is replaced
pub unpack_front : (w d at : ℕ) (l y : List ℕ) → d + bytes_for w ≤ at → at ≤ length l → unpack w (drop d (take at l ++ y)) ≡ unpack w (drop d l)
unpack_front w d at l y h room =
    let x : List ℕ = take at l in
    let front : length x ≡ at = length-take-le at l room in
    let inside : bytes_for w ≤ length (drop d x) = omega (arith, length-drop d x) in
    let part : (z : List ℕ) → unpack w (drop d (x ++ z)) ≡ unpack w (drop d x) =
    λ z. ap (unpack w) (drop-append-le d x z (omega arith)) ∙ unpack-append w (drop d x) z inside in
    part y ∙ sym (part (drop at l)) ∙ ap (λ (z : List ℕ). unpack w (drop d z)) (take-append-drop at l)

-- row i becomes the first row of y, and what lies behind it stays; the rows before it are F's
module _ (w i at : ℕ) (l₀ l y : List ℕ) (F : ℕ → List ℕ) (place : at ≡ i * bytes_for w) (room : at + bytes_for w ≤ length l) where
  front : length (take at l) ≡ at
  front = length-take-le at l (omega arith)

  pub rows_next : ((j : ℕ) → j < i → unpack w (drop (j * bytes_for w) l) ≡ F j) → unpack w y ≡ F i
      → (j : ℕ) → j < i + 1 → unpack w (drop (j * bytes_for w) (take at l ++ y)) ≡ F j
  rows_next done row j h = go (dec_lt j i)
    where
      go : Dec (j < i) → unpack w (drop (j * bytes_for w) (take at l ++ y)) ≡ F j
      go (yes b) = unpack_front w (j * bytes_for w) at l y (omega (arith, rows_in j i (bytes_for w) b)) (omega arith) ∙ done j b
      go (no b) =
          let e : j ≡ i = omega arith in
          let f : at ≡ j * bytes_for w = place ∙ ap (λ (x : ℕ). x * bytes_for w) (sym e) in
          ap (unpack w) (ap (λ (x : ℕ). drop x (take at l ++ y)) (sym f) ∙ drop_at (take at l) y at front) ∙ row ∙ ap F (sym e)

  pub rest_next : drop at l ≡ drop at l₀ → drop (bytes_for w) y ≡ drop (bytes_for w) (drop at l)
      → drop (at + bytes_for w) (take at l ++ y) ≡ drop (at + bytes_for w) l₀
  rest_next rest kept =
      sym (drop-drop (bytes_for w) at (take at l ++ y)) ∙ ap (drop (bytes_for w)) (drop_at (take at l) y at front)
      ∙ kept ∙ ap (drop (bytes_for w)) rest ∙ drop-drop (bytes_for w) at l₀
