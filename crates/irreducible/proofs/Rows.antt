-- Rows one behind another in a list: a row that is put back, and what the loops over rows leave. Assumes nothing.
use mathlib.Core.Path.{◌≡◌, refl, sym, ap, ap₂, ◌∙◌, subst}
use mathlib.Core.Logic.{◌⊎◌, inl, inr}
use mathlib.Core.List.{List, [], ◌∷◌, map}
use Prim.Native.Nat.{ℕ, zero, suc, ◌+◌, ◌-◌, ◌*◌, ◌≤◌, ◌<◌}
use native.Mathlib.Nat.{add-zero, le_trans, mul-le-mul_right}
use native.Mathlib.Omega.{arith}
use native.Mathlib.Decide.{dec_lt}
use lib.ListN.{length, get_or, take, drop, set, replicate, length-set, length-drop}
use lib.Seq.{take_all, length-take-le, take_at, drop_at, take-nil, take-take, drop-drop, get_or-take, get_or-drop}
use borrow.Rule.Slice.PartMut.{put_mid, take_put, drop_put, same_len_mid, set_mid_at}
use Rattle.bits.proofs.Parts.{rows_in, next_row}
use Rattle.bits.specs.Xor.{◌⊕◌}
use Rattle.bits.specs.Bits.{each_with, padded}
use Rattle.bits.proofs.Padded.{take-padded}
use Rattle.bits.proofs.Lists.{cons_eq}
use Rattle.bits.proofs.Xor.{xor-zero}
use Rattle.field.specs.Field.{mul}
use Rattle.field.specs.Poly.{horner_each}
use Rattle.field.proofs.Laws.{mul_comm}
use Rattle.field.proofs.Places.{horner_each_width}
use Rattle.field.proofs.Table.{Width}
use Rattle.irreducible.specs.Ready.{Shifted}
use Rattle.row_tables.specs.RowTable.{add_multiple}
use Rattle.row_tables.proofs.RowTable.{length-add_multiple}
use Rattle.irreducible.specs.Rows.{row_at, Added}

-- the rows before row k lie within k rows
pub row_room : (r k n len : ℕ) → r < k → k * n ≤ len → r * n + n ≤ len
row_room r k n len h l = le_trans (rows_in r k n h) l

pub row_next : (s i n : ℕ) → (s + i) * n + n ≡ (s + (i + 1)) * n
row_next s i n = let e : s + i + 1 ≡ s + (i + 1) = omega arith in next_row (s + i) n ∙ ap (λ (r : ℕ). r * n) e

pub rows_le : (r k n : ℕ) → r ≤ k → r * n ≤ k * n
rows_le r k n h = mul-le-mul_right n h

pub row_start : (s n : ℕ) → (s + 0) * n ≡ s * n
row_start s n = ap (λ (r : ℕ). r * n) (add-zero s)

pub length_row : (n : ℕ) (l : List ℕ) (r : ℕ) → r * n + n ≤ length l → length (row_at n l r) ≡ n
unfolding row_at
length_row n l r h = length-take-le n (drop (r * n) l) (omega (arith, length-drop (r * n) l))

pub row_at_lem : (n : ℕ) (l : List ℕ) (r p : ℕ) → p < n → get_or (row_at n l r) p 0 ≡ get_or l (r * n + p) 0
unfolding row_at
row_at_lem n l r p h = get_or-take n (drop (r * n) l) p 0 h ∙ get_or-drop (r * n) l p 0

part-of-take : (a n : ℕ) (l : List ℕ) → drop a (take (a + n) l) ≡ take n (drop a l)
part-of-take zero n l = let e : 0 + n ≡ n = omega arith in ap (λ (k : ℕ). take k l) e
part-of-take (suc a) n [] = let e : suc a + n ≡ suc (a + n) = omega arith in ap (λ (k : ℕ). drop {A = ℕ} (suc a) (take k [])) e ∙ sym (take-nil {A = ℕ} n)
part-of-take (suc a) n (x ∷ l) = let e : suc a + n ≡ suc (a + n) = omega arith in ap (λ (k : ℕ). drop (suc a) (take k (x ∷ l))) e ∙ part-of-take a n l

module _ (n r : ℕ) (l y : List ℕ) (room : r * n + n ≤ length l) (size : length y ≡ n) where
  pub put_same : row_at n (put_mid (r * n) n l y) r ≡ y
  unfolding row_at
  put_same = ap (take n) (drop_at (take (r * n) l) _ (r * n) (length-take-le (r * n) l (omega arith))) ∙ take_at y _ n size

  pub put_other : (q : ℕ) → (q < r) ⊎ (r < q) → row_at n (put_mid (r * n) n l y) q ≡ row_at n l q
  unfolding row_at
  put_other q (inl h) =
      let a = q * n in
      let k : a + n ≤ r * n = rows_in q r n h in
      let L : List ℕ = put_mid (r * n) n l y in
      sym (part-of-take a n L) ∙ ap (drop a) (sym (take-take (a + n) (r * n) L k) ∙ ap (take (a + n)) (take_put (r * n) n l y (omega arith)) ∙ take-take (a + n) (r * n) l k)
      ∙ part-of-take a n l
  put_other q (inr h) =
      let e = r * n + n in
      let k : e ≤ q * n = rows_in r q n h in
      let s : e - r * n ≡ n = omega arith in
      let u : e + (q * n - e) ≡ q * n = omega arith in
      let L : List ℕ = put_mid (r * n) n l y in
      let same : drop e L ≡ drop e l =
      ap (λ (z : ℕ). drop e (put_mid (r * n) z l y)) (sym s) ∙ drop_put (r * n) e l y (omega arith) room (size ∙ sym s) in
      ap (take n) (ap (λ (z : ℕ). drop z L) (sym u) ∙ sym (drop-drop (q * n - e) e L) ∙ ap (drop (q * n - e)) same ∙ drop-drop (q * n - e) e l ∙ ap (λ (z : ℕ). drop z l) u)

pub added_by : {t u : List ℕ} {n p d k : ℕ} {l l' : List ℕ} → t ≡ u → Added t n p d k l l' → Added u n p d k l l'
added_by {t} {u} {n} {p} {d} {k} {l} {l'} e a = subst (λ (z : List ℕ). Added z n p d k l l') e a

-- the loop over rows: none yet; one more
pub added_none : (t : List ℕ) (n p d : ℕ) (l : List ℕ) → Added t n p d 0 l l
added_none t n p d l = record { size = refl; inside = λ i h. absurd (omega arith); others = λ r h. refl }

module _ (t : List ℕ) (n p d i : ℕ) (l l₁ : List ℕ) (a : Added t n p d i l l₁) (room : (d + i) * n + n ≤ length l) where
  abbrev new : List ℕ
  new = add_multiple t (get_or (row_at n l₁ (d + i)) p 0) (row_at n l₁ (d + i))

  target : row_at n l₁ (d + i) ≡ row_at n l (d + i)
  target = a.others (d + i) (inr (omega arith))

  size_new : length new ≡ n
  size_new = length-add_multiple t _ (row_at n l₁ (d + i)) ∙ ap length target ∙ length_row n l (d + i) room

  pub added_next : Added t n p d (i + 1) l (put_mid ((d + i) * n) n l₁ new)
  added_next =
      let sz : length l₁ ≡ length l = a.size in
      let rm : (d + i) * n + n ≤ length l₁ = omega arith in
      record {
        size = same_len_mid ((d + i) * n) n l₁ new (size_new ∙ sym (length_row' rm)) ∙ a.size;
        inside = λ j h. elim (dec_lt j i) [
          | yes k ↦ put_other n (d + i) l₁ new rm size_new (d + j) (inl (omega arith)) ∙ a.inside j k
          | no k ↦ (let e : j ≡ i = omega arith in
              ap (λ (x : ℕ). row_at n (put_mid ((d + i) * n) n l₁ new) (d + x)) e ∙ put_same n (d + i) l₁ new rm size_new
              ∙ ap (λ (x : List ℕ). add_multiple t (get_or x p 0) x) target
              ∙ sym (ap (λ (x : ℕ). add_multiple t (get_or (row_at n l (d + x)) p 0) (row_at n l (d + x))) e))
        ];
        others = λ r h. put_other n (d + i) l₁ new rm size_new r (go r h) ∙ a.others r (back r h);
      }
    where
      length_row' : (d + i) * n + n ≤ length l₁ → length (take n (drop ((d + i) * n) l₁)) ≡ n
      length_row' h = length-take-le n (drop ((d + i) * n) l₁) (omega (arith, length-drop ((d + i) * n) l₁))

      go : (r : ℕ) → (r < d) ⊎ (d + (i + 1) ≤ r) → (r < d + i) ⊎ (d + i < r)
      go r (inl h) = inl (omega arith)
      go r (inr h) = inr (omega arith)

      back : (r : ℕ) → (r < d) ⊎ (d + (i + 1) ≤ r) → (r < d) ⊎ (d + i ≤ r)
      back r (inl h) = inl h
      back r (inr h) = inr (omega arith)

-- at most 128 rows of 128
pub square_room : (n : ℕ) → n ≤ 128 → n * n ≤ 16384
square_room n h = omega (arith, rows_le n 128 n h)

pub room : (n r : ℕ) (l : List ℕ) → n ≤ 128 → length l ≡ 16384 → r < n → r * n + n ≤ length l
room n r l h e k = let s : n * n ≤ length l = omega (arith, square_room n h) in le_trans (rows_in r n n k) s

-- a part that is lent
pub part_row_lem : (n : ℕ) (l : List ℕ) (r at e : ℕ) → at ≡ r * n → e ≡ at + n → take (e - at) (drop at l) ≡ row_at n l r
unfolding row_at
part_row_lem n l r at e x y = let z : e - at ≡ n = omega arith in ap₂ (λ (i j : ℕ). take i (drop j l)) z x

-- a store in a row
module _ (n r p v : ℕ) (l : List ℕ) (room : r * n + n ≤ length l) (h : p < n) where
  set_put : set l (r * n + p) v ≡ put_mid (r * n) n l (set (row_at n l r) p v)
  unfolding row_at
  set_put = sym (set_mid_at (r * n) n p l v (omega (arith, length-take-le n (drop (r * n) l) (omega (arith, length-drop (r * n) l)))))

  size_set : length (set (row_at n l r) p v) ≡ n
  size_set = length-set (row_at n l r) p v ∙ length_row n l r room

  pub set_same : row_at n (set l (r * n + p) v) r ≡ set (row_at n l r) p v
  set_same = ap (λ (z : List ℕ). row_at n z r) set_put ∙ put_same n r l (set (row_at n l r) p v) room size_set

  pub set_other : (q : ℕ) → (q < r) ⊎ (r < q) → row_at n (set l (r * n + p) v) q ≡ row_at n l q
  set_other q h = ap (λ (z : List ℕ). row_at n z q) set_put ∙ put_other n r l (set (row_at n l r) p v) room size_set q h

pub shifted_none : (n : ℕ) (l : List ℕ) → Shifted n 0 l l
shifted_none n l = record { size = refl; inside = λ r h. absurd (omega arith); others = λ r h. refl }

pub shifted_next : (n r : ℕ) (l l₁ : List ℕ) → Shifted n r l l₁ → r * n + n ≤ length l → suc r < n
    → Shifted n (r + 1) l (set l₁ (r * n + suc r) (get_or l₁ (r * n + suc r) 0 ⊕ 1))
shifted_next n r l l₁ a room h =
    let z : length l₁ ≡ length l = a.size in
    let v : ℕ = get_or l₁ (r * n + suc r) 0 ⊕ 1 in
    let e : row_at n l₁ r ≡ row_at n l r = a.others r (omega arith) in
    record {
      size = length-set l₁ _ _ ∙ a.size;
      inside = λ q k. elim (dec_lt q r) [
        | yes w ↦ set_other n r (suc r) v l₁ (omega arith) h q (inl w) ∙ a.inside q w
        | no w ↦ (let i : q ≡ r = omega arith in
            ap (row_at n (set l₁ (r * n + suc r) v)) i ∙ set_same n r (suc r) v l₁ (omega arith) h
            ∙ ap₂ (λ (x : List ℕ) (y : ℕ). set x (suc r) (y ⊕ 1)) e (sym (row_at_lem n l₁ r (suc r) h) ∙ ap (λ (x : List ℕ). get_or x (suc r) 0) e)
            ∙ sym (ap (λ (x : ℕ). set (row_at n l x) (suc x) (get_or (row_at n l x) (suc x) 0 ⊕ 1)) i))
      ];
      others = λ q k. set_other n r (suc r) v l₁ (omega arith) h q (inr (omega arith)) ∙ a.others q (omega arith);
    }

-- every number times c
pub horner_multiple : (m c : ℕ) → Width m → (n : ℕ) (b : List ℕ) → length b ≤ n → horner_each m 0 b (replicate n c) ≡ map (mul m c) b
unfolding each_with
horner_multiple m c w n b e = horner_each_width m 0 b (replicate n c) w ∙ go n b e
  where
    go : (n : ℕ) (b : List ℕ) → length b ≤ n → each_with (λ x y. mul m x y ⊕ 0) b (replicate n c) ≡ map (mul m c) b
    go n [] e = refl
    go zero (x ∷ b) e = absurd (omega arith)
    go (suc n) (x ∷ b) e = cons_eq (xor-zero _ ∙ mul_comm m x c) (go n b (omega arith))

-- a row copied out, with zeros behind it
pub copied : (n r : ℕ) (l w : List ℕ) → n ≤ 128 → length l ≡ 16384 → r < n → w ≡ padded 512 (take 512 (take (r * n + n - r * n) (drop (r * n) l))) → take n w ≡ row_at n l r
copied n r l w h z k e =
    let row : List ℕ = row_at n l r in
    let long : length row ≡ n = length_row n l r (room n r l h z k) in
    ap (take n) (e ∙ ap (padded 512) (ap (take 512) (part_row_lem n l r (r * n) (r * n + n) refl refl) ∙ take_all 512 row (omega arith))) ∙ take-padded 512 row n long
