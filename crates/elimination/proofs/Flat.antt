-- Rows of n bits in a list of bytes, copied and moved. Assumes nothing.
use mathlib.Core.Path.{◌≡◌, sym, ap, ap₂, ◌∙◌}
use mathlib.Core.List.{List, ◌∷◌, ◌++◌, append_assoc}
use Prim.Native.Nat.{ℕ, suc, ◌+◌, ◌-◌, ◌*◌, ◌≤◌, ◌<◌}
use native.Mathlib.Nat.{zero-add, add-mul, add_comm, le_trans}
use native.Mathlib.Numerals.{add-one}
use native.Mathlib.Omega.{arith}
use lib.ListN.{length, get_or, take, drop, set, length-drop, length-append, take-append-drop}
use lib.Seq.{drop-drop, drop_at, take_at, drop-cons, set_at, set_split, take-set-le, length-take-le, append_snoc, take-suc}
use Rattle.bits.specs.Bits.{bytes_for}
use Rattle.bits.proofs.Parts.{rows_in, part_all}
use Rattle.code.specs.Lock.{row_of}
use Rattle.elimination.specs.Elimination.{moved_up, to_front}

-- row r of more rows of b bytes, and where the rows from row i on begin
pub row_room : (r rows n b len : ℕ) → b ≡ bytes_for n → r < rows → rows * bytes_for n ≤ len → r * b + b ≤ len
row_room r rows n b len e h l = rw e (le_trans (rows_in r rows (bytes_for n) h) l)

pub rows_split : (i rows b : ℕ) → i ≤ rows → i * b + (rows - i) * b ≡ rows * b
rows_split i rows b h = let e : i + (rows - i) ≡ rows = omega arith in sym (add-mul i (rows - i) b) ∙ ap (λ (k : ℕ). k * b) e

-- one byte more, copied
pub copied_next : (i : ℕ) (s d : List ℕ) → i < length s → i < length d
    → set (take i s ++ drop i d) i (get_or s i 0) ≡ take (i + 1) s ++ drop (i + 1) d
copied_next i s d h k =
    let rest : List ℕ = drop (suc i) d in
    ap (λ (r : List ℕ). set (take i s ++ r) i (get_or s i 0)) (drop-cons d i 0 k)
    ∙ set_at (take i s) (get_or d i 0) rest (get_or s i 0) i (length-take-le i s (omega arith))
    ∙ sym (append_snoc (take i s) (get_or s i 0) rest)
    ∙ ap (λ (r : List ℕ). r ++ rest) (sym (take-suc s i 0 h))
    ∙ ap (λ (j : ℕ). take j s ++ drop j d) (sym (add-one i))

-- a byte moved up
pub moved-next : (i b : ℕ) (w : List ℕ) → i + 1 + b ≤ length w → moved_up i b (set w (i + b) (get_or w i 0)) ≡ moved_up (i + 1) b w
unfolding moved_up
moved-next i b w h =
    let u : List ℕ = set w (i + b) (get_or w i 0) in
    let rest : List ℕ = drop (suc (i + b)) w in
    let e : suc (i + b) ≡ i + 1 + b = omega arith in
    let p : drop (i + b) u ≡ get_or w i 0 ∷ rest =
    ap (drop (i + b)) (set_split w (i + b) (get_or w i 0) (omega arith))
    ∙ drop_at (take (i + b) w) (get_or w i 0 ∷ rest) (i + b) (length-take-le (i + b) w (omega arith)) in
    ap₂ (λ (x y : List ℕ). x ++ y) (take-set-le b w (i + b) (get_or w i 0) (omega arith))
    (ap₂ (λ (x y : List ℕ). x ++ y) (take-set-le i w (i + b) (get_or w i 0) (omega arith)) p
    ∙ sym (append_snoc (take i w) (get_or w i 0) rest)
    ∙ ap₂ (λ (x y : List ℕ). x ++ y) (sym (take-suc w i 0 (omega arith)) ∙ ap (λ (j : ℕ). take j w) (sym (add-one i))) (ap (λ (j : ℕ). drop j w) e))

pub moved_none : (b : ℕ) (w : List ℕ) → moved_up 0 b w ≡ w
unfolding moved_up
moved_none b w = ap (λ (j : ℕ). take b w ++ drop j w) (zero-add b) ∙ take-append-drop b w

-- the row put to the front
pub front_put : (k b : ℕ) (w z : List ℕ) → k + b ≤ length w
    → take b (take b (drop k w) ++ z) ++ drop b (moved_up k b w) ≡ to_front k b w
unfolding moved_up to_front
front_put k b w z h =
    let l : b ≤ length (drop k w) = omega (arith, length-drop k w) in
    ap₂ (λ (x y : List ℕ). x ++ y)
    (take_at (take b (drop k w)) z b (length-take-le b (drop k w) l))
    (drop_at (take b w) (take k w ++ drop (k + b) w) b (length-take-le b w (omega arith)))

-- what lies past the rows that are moved is as it was
pub front_rest : (k b m : ℕ) (w : List ℕ) → k + b ≤ length w → k + b ≤ m → drop m (to_front k b w) ≡ drop m w
unfolding to_front
front_rest k b m w h l =
    let x : List ℕ = take b (drop k w) in
    let y : List ℕ = take k w in
    let z : List ℕ = drop (k + b) w in
    let e : k + b + (m - (k + b)) ≡ m = omega arith in
    let f : length (x ++ y) ≡ k + b =
    length-append x y ∙ ap₂ ◌+◌ (length-take-le b (drop k w) (omega (arith, length-drop k w))) (length-take-le k w (omega arith)) ∙ add_comm b k in
    ap (drop m) (sym (append_assoc x y z))
    ∙ ap (λ (i : ℕ). drop i (x ++ y ++ z)) (sym e)
    ∙ sym (drop-drop (m - (k + b)) (k + b) (x ++ y ++ z))
    ∙ ap (drop (m - (k + b))) (drop_at (x ++ y) z (k + b) f)
    ∙ drop-drop (m - (k + b)) (k + b) w
    ∙ ap (λ (i : ℕ). drop i w) e

-- row i of a workspace: its length, and the row copied to the front of another list
module _ (i rows n : ℕ) (w : List ℕ) (within : rows * bytes_for n ≤ length w) (less : i < rows) where
  pub length_row : length (row_of n w i) ≡ bytes_for n
  unfolding row_of
  length_row =
      let e = rows_in i rows (bytes_for n) less in
      length-take-le (bytes_for n) (drop (i * bytes_for n) w) (omega (arith, length-drop (i * bytes_for n) w))

  pub row_copied : (b : ℕ) (z : List ℕ) → b ≡ bytes_for n
      → take b (take b (take (length w - i * b) (drop (i * b) w)) ++ z) ≡ row_of n w i
  unfolding row_of
  row_copied b z e =
      ap (λ (l : List ℕ). take b (take b l ++ z)) (part_all (i * b) w)
      ∙ ap (λ (k : ℕ). take k (take k (drop (i * k) w) ++ z)) e
      ∙ take_at (row_of n w i) z (bytes_for n) length_row
