-- The workspace between two columns, and the columns' steps on it. Assumes nothing.
use mathlib.Core.Path.{◌≡◌, refl, sym, ap, ap₂, ◌∙◌}
use mathlib.Core.Bool.{true, false}
use mathlib.Core.List.{List, [], ◌∷◌, ◌++◌, map}
use Prim.Native.Nat.{ℕ, ◌+◌, ◌-◌, ◌*◌, ◌≤◌, ◌<◌}
use native.Mathlib.Numerals.{add-one}
use native.Mathlib.Omega.{arith}
use lib.ListN.{length, take, drop, take-append-drop}
use lib.Seq.{length-take-le, drop_at, drop-drop}
use borrow.Rule.Slice.PartMut.{put_mid}
use Rattle.bits.specs.Bits.{from, bytes_for, unpack}
use Rattle.bits.proofs.Parts.{rows_in, next_row, part_all, part_back}
use Rattle.bits.proofs.Pack.{unpack-take}
use Rattle.code.specs.PublicKey.{Matrix, find_pivot, clear, Echelon, with_pivot}
use Rattle.code.specs.Lock.{row_of, rows_of}
use Rattle.code.proofs.Identity.{from_end}
use Rattle.elimination.specs.Elimination.{first_row, stage, pivoted, stepped, next}
use Rattle.code.proofs.PackedRows.{rows_snoc, rows_front}
use Rattle.elimination.proofs.Flat.{rows_split}

-- three equal parts
echelon_eq : {x y : Matrix} {u v : Matrix} {p q : List ℕ} → x ≡ y → u ≡ v → p ≡ q
    → ◌≡◌ {A = Echelon} (record { done = x; rest = u; pivots = p }) (record { done = y; rest = v; pivots = q })
echelon_eq e f g = cc

-- a part that starts at row i is lent and comes back as y, with what lies past the rows as it was
past_rows : (i rows b : ℕ) (w y : List ℕ) → i ≤ rows → rows * b ≤ length w
    → drop ((rows - i) * b) y ≡ drop ((rows - i) * b) (drop (i * b) w) → drop (rows * b) (take (i * b) w ++ y) ≡ drop (rows * b) w
past_rows i rows b w y h l e =
    let s : i * b + (rows - i) * b ≡ rows * b = rows_split i rows b h in
    let u : List ℕ = take (i * b) w ++ y in
    ap (λ (k : ℕ). drop k u) (sym s) ∙ sym (drop-drop ((rows - i) * b) (i * b) u)
    ∙ ap (drop ((rows - i) * b)) (drop_at (take (i * b) w) y (i * b) (length-take-le (i * b) w (omega arith)))
    ∙ e ∙ drop-drop ((rows - i) * b) (i * b) w ∙ ap (λ (k : ℕ). drop k w) s

-- t is row i; the rows before it are cleared in w₁, and those behind it in z
module _ (i rows n : ℕ) (t w w₁ z : List ℕ) (within : rows * bytes_for n ≤ length w) (less : i < rows) (same : length w₁ ≡ length w)
    (row : t ≡ row_of n w i)
    (before : rows_of i n w₁ ≡ map (clear i (unpack n t)) (rows_of i n w))
    (kept : drop (i * bytes_for n) w₁ ≡ drop (i * bytes_for n) w)
    (behind : rows_of (rows - (i + 1)) n z ≡ map (clear i (unpack n t)) (rows_of (rows - (i + 1)) n (drop ((i + 1) * bytes_for n) w₁)))
    (past : drop ((rows - (i + 1)) * bytes_for n) z ≡ drop ((rows - (i + 1)) * bytes_for n) (drop ((i + 1) * bytes_for n) w₁)) where
  room : (i + 1) * bytes_for n ≤ length w₁
  room = omega (arith, rows_in i rows (bytes_for n) less, next_row i (bytes_for n))

  pivot_bits : unpack n t ≡ unpack n (drop (i * bytes_for n) w)
  unfolding row_of
  pivot_bits = ap (unpack n) row ∙ unpack-take n (bytes_for n) (drop (i * bytes_for n) w) (omega arith)

  next-part : drop ((i + 1) * bytes_for n) w₁ ≡ drop (bytes_for n) (drop (i * bytes_for n) w)
  next-part =
      ap (λ (k : ℕ). drop k w₁) (sym (next_row i (bytes_for n))) ∙ sym (drop-drop (bytes_for n) (i * bytes_for n) w₁)
      ∙ ap (drop (bytes_for n)) kept

  pub around-stage : stage (i + 1) rows n (take ((i + 1) * bytes_for n) w₁ ++ z) ≡ pivoted i rows n w
  unfolding pivoted stage with_pivot first_row
  around-stage =
      let b : ℕ = bytes_for n in
      let at : ℕ = (i + 1) * b in
      let others : rows_of (rows - (i + 1)) n (drop at w₁) ≡ rows_of (rows - i - 1) n (drop b (drop (i * b) w)) =
      ap₂ (λ (k : ℕ) (s : List ℕ). rows_of k n s) (omega arith) next-part in
      echelon_eq
      (rows_front (i + 1) n at w₁ z (omega arith) room ∙ rows_snoc i n w₁
      ∙ ap₂ (λ (xs : Matrix) (x : List ℕ). xs ++ (x ∷ [])) (before ∙ ap (λ (p : List ℕ). map (clear i p) (rows_of i n w)) pivot_bits) (ap (unpack n) kept))
      (ap (rows_of (rows - (i + 1)) n) (drop_at (take at w₁) z at (length-take-le at w₁ room))
      ∙ behind ∙ ap₂ (λ (p : List ℕ) (xs : Matrix). map (clear i p) xs) pivot_bits others)
      (ap (from 0) (add-one i) ∙ sym (from_end i))

  pub around_past : drop (rows * bytes_for n) (take ((i + 1) * bytes_for n) w₁ ++ z) ≡ drop (rows * bytes_for n) w
  around_past =
      let b : ℕ = bytes_for n in
      let s : i * b + (rows - i) * b ≡ rows * b = rows_split i rows b (omega arith) in
      past_rows (i + 1) rows b w₁ z (omega arith) (omega arith) past
      ∙ ap (λ (k : ℕ). drop k w₁) (sym s) ∙ sym (drop-drop ((rows - i) * b) (i * b) w₁) ∙ ap (drop ((rows - i) * b)) kept
      ∙ drop-drop ((rows - i) * b) (i * b) w ∙ ap (λ (k : ℕ). drop k w) s

-- the rows from row i on are lent, and come back as y with the pivot in their first row, or with none
module _ (i rows n b : ℕ) (w y : List ℕ) (size : b ≡ bytes_for n) (within : rows * bytes_for n ≤ length w) (less : i < rows) where
  abbrev lent : List ℕ
  lent = take (length w - i * b) (drop (i * b) w)

  abbrev after : List ℕ
  after = put_mid (i * b) (length w - i * b) w y

  room_before : i * bytes_for n ≤ length w
  room_before = omega (arith, rows_in i rows (bytes_for n) less)

  lent_is : lent ≡ drop (i * bytes_for n) w
  lent_is = part_all (i * b) w ∙ ap (λ (k : ℕ). drop (i * k) w) size

  after_is : after ≡ take (i * bytes_for n) w ++ y
  after_is = part_back (i * b) w y ∙ ap (λ (k : ℕ). take (i * k) w ++ y) size

  after_rest : drop (i * bytes_for n) after ≡ y
  after_rest = ap (drop (i * bytes_for n)) after_is ∙ drop_at (take (i * bytes_for n) w) y (i * bytes_for n) (length-take-le (i * bytes_for n) w room_before)

  pub lift_past : drop ((rows - i) * bytes_for n) y ≡ drop ((rows - i) * bytes_for n) lent → drop (rows * bytes_for n) after ≡ drop (rows * bytes_for n) w
  lift_past e =
      ap (drop (rows * bytes_for n)) after_is
      ∙ past_rows i rows (bytes_for n) w y (omega arith) within (e ∙ ap (drop ((rows - i) * bytes_for n)) lent_is)

  pub lift_missing : y ≡ lent → find_pivot i (rows_of (rows - i) n lent) ≡ first_row false (rows - i) n y
      → stage (next false i) rows n after ≡ stepped i rows n w
  unfolding stepped stage with_pivot first_row next
  lift_missing e f =
      sym (ap (with_pivot i (stage i rows n w)) (ap (λ (l : List ℕ). find_pivot i (rows_of (rows - i) n l)) (sym lent_is) ∙ f)
      ∙ ap (stage i rows n) (sym (after_is ∙ ap (λ (l : List ℕ). take (i * bytes_for n) w ++ l) (e ∙ lent_is) ∙ take-append-drop (i * bytes_for n) w)))

  pub lift_pivot : (u : List ℕ) → find_pivot i (rows_of (rows - i) n lent) ≡ first_row true (rows - i) n y
      → stage (i + 1) rows n u ≡ pivoted i rows n after → stage (next true i) rows n u ≡ stepped i rows n w
  unfolding pivoted stepped stage with_pivot first_row next
  lift_pivot u f e =
      let p : List ℕ = unpack n y in
      let front : rows_of i n after ≡ rows_of i n w =
      ap (rows_of i n) after_is ∙ rows_front i n (i * bytes_for n) w y (omega arith) room_before in
      e
      ∙ ap (λ (l : List ℕ). with_pivot i (stage i rows n after) (first_row true (rows - i) n l)) after_rest
      ∙ echelon_eq (ap (λ (xs : Matrix). map (clear i p) xs ++ (p ∷ [])) front) refl refl
      ∙ ap (with_pivot i (stage i rows n w)) (sym f ∙ ap (λ (l : List ℕ). find_pivot i (rows_of (rows - i) n l)) lent_is)
