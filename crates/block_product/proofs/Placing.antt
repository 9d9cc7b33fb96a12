-- A packed row put into a list of bytes, rows some bytes apart, one after the other. Assumes nothing.
use mathlib.Core.Path.{◌≡◌, sym, ap, ◌∙◌}
use mathlib.Core.Logic.{◌⊎◌, inl, inr}
use mathlib.Core.List.{List, ◌++◌}
use Prim.Native.Nat.{ℕ, ◌+◌, ◌-◌, ◌*◌, ◌≤◌, ◌<◌}
use native.Mathlib.Nat.{add-mul}
use native.Mathlib.Decide.{dec_lt}
use native.Mathlib.Omega.{arith}
use lib.ListN.{length, get_or, take, drop, get_or-append}
use lib.Seq.{length-take-le, drop_at, get_or-take, get_or-drop}
use Rattle.bits.specs.Bits.{bytes_for, unpack, pack, over, row_written}
use Rattle.bits.proofs.Padded.{over-at, over_rest}
use Rattle.bits.proofs.Parts.{rows_in}
use Rattle.bits.proofs.PutBits.{written_row}

pub row_written_lem : (s : List ℕ) (w : ℕ) (out : List ℕ) → bytes_for w ≤ length out → row_written s 0 w out ≡ over (pack (unpack w s)) out
unfolding unpack
row_written_lem s w out h = written_row s 0 w out h

-- p over the part of l from `at` on
module _ (at k : ℕ) (l p : List ℕ) (size : length p ≡ k) (room : at + k ≤ length l) where
  abbrev new : List ℕ
  new = take at l ++ over p (drop at l)

  front : length (take at l) ≡ at
  front = length-take-le at l (omega arith)

  behind : (x : ℕ) → get_or new (at + x) 0 ≡ get_or (over p (drop at l)) x 0
  behind x = sym (get_or-drop at new x 0) ∙ ap (λ (z : List ℕ). get_or z x 0) (drop_at (take at l) (over p (drop at l)) at front)

  pub put_inside : (x : ℕ) → x < k → get_or new (at + x) 0 ≡ get_or p x 0
  put_inside x h = behind x ∙ over-at p (drop at l) k size x h

  pub put_outside : (y : ℕ) → (y < at) ⊎ (at + k ≤ y) → get_or new y 0 ≡ get_or l y 0
  put_outside y (inl h) = get_or-append (take at l) (over p (drop at l)) 0 y (omega (arith, front)) ∙ get_or-take at l y 0 h
  put_outside y (inr h) =
      let z : ℕ = y - (at + k) in
      let e : y ≡ at + (k + z) = omega arith in
      ap (λ (x : ℕ). get_or new x 0) e ∙ behind (k + z)
      ∙ sym (get_or-drop k (over p (drop at l)) z 0)
      ∙ ap (λ (x : List ℕ). get_or x z 0) (over_rest p (drop at l) k size)
      ∙ get_or-drop k (drop at l) z 0 ∙ get_or-drop at l (k + z) 0 ∙ ap (λ (x : ℕ). get_or l x 0) (sym e)

-- where row j ends before row i begins
pub row_before : (j i size k x : ℕ) → j < i → k ≤ size → x < k → j * size + x < i * size
row_before j i size k x h l b = omega (arith, rows_in j i size h)

-- row i is put behind the rows before it, of F, and what is no row's stays
module _ (i at size k : ℕ) (l₀ l p : List ℕ) (F : ℕ → List ℕ) (place : at ≡ i * size) (fits : k ≤ size) (long : length p ≡ k) (room : at + k ≤ length l) where
  abbrev next : List ℕ
  next = take at l ++ over p (drop at l)

  pub placed_inside : ((j x : ℕ) → j < i → x < k → get_or l (j * size + x) 0 ≡ get_or (F j) x 0) → p ≡ F i
      → (j x : ℕ) → j < i + 1 → x < k → get_or next (j * size + x) 0 ≡ get_or (F j) x 0
  placed_inside done row j x h b = go (dec_lt j i)
    where
      go : Dec (j < i) → get_or next (j * size + x) 0 ≡ get_or (F j) x 0
      go (yes c) = put_outside at k l p long room (j * size + x) (inl (omega (arith, row_before j i size k x c fits b))) ∙ done j x c b
      go (no c) =
          let e : j ≡ i = omega arith in
          ap (λ (y : ℕ). get_or next (y + x) 0) (ap (λ (y : ℕ). y * size) e ∙ sym place) ∙ put_inside at k l p long room x b
          ∙ ap (λ (q : List ℕ). get_or q x 0) (row ∙ ap F (sym e))

  pub placed_outside : ((y : ℕ) → ((j : ℕ) → j < i → (y < j * size) ⊎ (j * size + k ≤ y)) → get_or l y 0 ≡ get_or l₀ y 0)
      → (y : ℕ) → ((j : ℕ) → j < i + 1 → (y < j * size) ⊎ (j * size + k ≤ y)) → get_or next y 0 ≡ get_or l₀ y 0
  placed_outside done y h = put_outside at k l p long room y (own (h i (omega arith))) ∙ done y (λ j b. h j (omega arith))
    where
      own : (y < i * size) ⊎ (i * size + k ≤ y) → (y < at) ⊎ (at + k ≤ y)
      own (inl b) = inl (omega arith)
      own (inr b) = inr (omega arith)

-- rows from row f on are put by way of the part y from `at` on
module _ (f count at size k : ℕ) (l₀ l y : List ℕ) (F : ℕ → List ℕ) (place : at ≡ f * size) (fits : k ≤ size) (room : at ≤ length l)
    (own : (i x : ℕ) → i < count → x < k → get_or y (i * size + x) 0 ≡ get_or (F (f + i)) x 0)
    (kept : (z : ℕ) → ((i : ℕ) → i < count → (z < i * size) ⊎ (i * size + k ≤ z)) → get_or y z 0 ≡ get_or (drop at l) z 0) where
  abbrev joined : List ℕ
  joined = take at l ++ y

  joined_front : (z : ℕ) → z < at → get_or joined z 0 ≡ get_or l z 0
  joined_front z h = get_or-append (take at l) y 0 z (omega (arith, length-take-le at l room)) ∙ get_or-take at l z 0 h

  joined_behind : (z : ℕ) → get_or joined (at + z) 0 ≡ get_or y z 0
  joined_behind z = sym (get_or-drop at joined z 0) ∙ ap (λ (x : List ℕ). get_or x z 0) (drop_at (take at l) y at (length-take-le at l room))

  row_place : (i : ℕ) → (f + i) * size ≡ at + i * size
  row_place i = add-mul f i size ∙ ap (λ (x : ℕ). x + i * size) (sym place)

  pub joined_inside : ((j x : ℕ) → j < f → x < k → get_or l (j * size + x) 0 ≡ get_or (F j) x 0)
      → (j x : ℕ) → j < f + count → x < k → get_or joined (j * size + x) 0 ≡ get_or (F j) x 0
  joined_inside done j x h b = go (dec_lt j f)
    where
      go : Dec (j < f) → get_or joined (j * size + x) 0 ≡ get_or (F j) x 0
      go (yes c) = joined_front (j * size + x) (omega (arith, row_before j f size k x c fits b)) ∙ done j x c b
      go (no c) =
          let i : ℕ = j - f in
          let e : j ≡ f + i = omega arith in
          let p : j * size + x ≡ at + (i * size + x) = omega (arith, ap (λ (z : ℕ). z * size) e, row_place i) in
          ap (λ (z : ℕ). get_or joined z 0) p ∙ joined_behind (i * size + x) ∙ own i x (omega arith) b ∙ ap (λ (z : ℕ). get_or (F z) x 0) (sym e)

  pub joined_outside : ((z : ℕ) → ((j : ℕ) → j < f → (z < j * size) ⊎ (j * size + k ≤ z)) → get_or l z 0 ≡ get_or l₀ z 0)
      → (z : ℕ) → ((j : ℕ) → j < f + count → (z < j * size) ⊎ (j * size + k ≤ z)) → get_or joined z 0 ≡ get_or l₀ z 0
  joined_outside done z h = go (dec_lt z at) ∙ done z (λ j b. h j (omega arith))
    where
      here : (i u : ℕ) → z ≡ at + u → (z < (f + i) * size) ⊎ ((f + i) * size + k ≤ z) → (u < i * size) ⊎ (i * size + k ≤ u)
      here i u e (inl b) = inl (omega (arith, row_place i))
      here i u e (inr b) = inr (omega (arith, row_place i))

      go : Dec (z < at) → get_or joined z 0 ≡ get_or l z 0
      go (yes c) = joined_front z c
      go (no c) =
          let u : ℕ = z - at in
          let e : z ≡ at + u = omega arith in
          ap (λ (x : ℕ). get_or joined x 0) e ∙ joined_behind u ∙ kept u (λ i b. here i u e (h (f + i) (omega arith)))
          ∙ get_or-drop at l u 0 ∙ ap (λ (x : ℕ). get_or l x 0) (sym e)
