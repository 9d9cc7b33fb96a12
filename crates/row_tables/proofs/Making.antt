-- How a table is made: a row's half, a row more, all rows. Assumes nothing.
use mathlib.Core.Path.{◌≡◌, refl, sym, ap, ap₂, ◌∙◌, subst}
use mathlib.Core.Bool.{Bool, true, ◌&&◌}
use mathlib.Core.Logic.{◌⊎◌, inl, inr}
use mathlib.Core.List.{List}
use Prim.Native.Nat.{ℕ, ◌+◌, ◌-◌, ◌*◌, ◌/◌, ◌%◌, ◌^◌, ◌≤◌, ◌<◌, min}
use native.Mathlib.Omega.{arith}
use native.Mathlib.Decide.{dec_lt}
use lib.Dec.{eqb, ltb}
use lib.ListN.{length, get_or, take, drop, set, length-drop, length-set, get_or-eq_default}
use lib.Seq.{take_all, ext_get_or, get_or-drop, get_or-set_same, get_or-set_other}
use borrow.Author.Tests.{ltb-true, eqb-true}
use Rattle.bits.specs.Xor.{◌⊕◌}
use Rattle.bits.specs.Bits.{from, every}
use Rattle.bits.proofs.Lists.{and_left, and_right, every-from-at}
use Rattle.field.specs.Field.{mul}
use Rattle.field.specs.PointTable.{multiples_of}
use Rattle.field.proofs.Laws.{mul-add, mul-zero}
use Rattle.field.proofs.PointTable.{multiples_at}
use Rattle.row_tables.specs.RowTable.{factor_at, table_of}
use Rattle.row_tables.specs.Making.{earlier_rows, digit_places, Put, Zeroed, Columns}
use Rattle.row_tables.proofs.RowTable.{length_table, table_at}

-- every row but row 0 is an earlier row plus a power, by one computed test
unfoldable right : ℕ → Bool
right q = ltb (get_or earlier_rows q 0) q && (ltb (get_or digit_places q 0) 13 && eqb (factor_at (get_or earlier_rows q 0) ⊕ 2 ^ get_or digit_places q 0) (factor_at q))

all_right : every right (from 1 39) ≡ true
unfolding every from right earlier_rows digit_places factor_at ◌⊕◌
all_right = refl

module _ (q : ℕ) (pos : 0 < q) (h : q < 40) where
  right_at : right q ≡ true
  right_at = let e : 1 + (q - 1) ≡ q = omega arith in subst (λ (x : ℕ). right x ≡ true) e (every-from-at right 1 39 all_right (q - 1) (omega arith))

  pub earlier_lt : get_or earlier_rows q 0 < q
  unfolding right
  earlier_lt = ltb-true _ _ (and_left (ltb (get_or earlier_rows q 0) q) _ right_at)

  rest : ltb (get_or digit_places q 0) 13 && eqb (factor_at (get_or earlier_rows q 0) ⊕ 2 ^ get_or digit_places q 0) (factor_at q) ≡ true
  unfolding right
  rest = and_right (ltb (get_or earlier_rows q 0) q) _ right_at

  pub digit_lt : get_or digit_places q 0 < 13
  digit_lt = ltb-true _ _ (and_left (ltb (get_or digit_places q 0) 13) _ rest)

  pub factor_sum : factor_at (get_or earlier_rows q 0) ⊕ 2 ^ get_or digit_places q 0 ≡ factor_at q
  factor_sum = eqb-true _ _ (and_right (ltb (get_or digit_places q 0) 13) _ rest)

apart_from : (at k x : ℕ) → (x < at) ⊎ (at + (k + 1) ≤ x) → ¬ (x ≡ at + k)
apart_from at k x (inl h) e = omega arith
apart_from at k x (inr h) e = omega arith

less : (at k x : ℕ) → (x < at) ⊎ (at + (k + 1) ≤ x) → (x < at) ⊎ (at + k ≤ x)
less at k x (inl h) = inl h
less at k x (inr h) = inr (omega arith)

-- half a row: none yet; one number more
pub put_none : (t : List ℕ) (j s at : ℕ) (l : List ℕ) → Put t j s at 0 l l
put_none t j s at l = record { size = refl; inside = λ i h. absurd (omega arith); others = λ x h. refl }

pub put_next : (t : List ℕ) (j s at k : ℕ) (l l₁ : List ℕ) → Put t j s at k l l₁ → s + k < at → at + k < length l
    → Put t j s at (k + 1) l (set l₁ (at + k) (get_or l₁ (s + k) 0 ⊕ get_or t (64 * j + k) 0))
put_next t j s at k l l₁ a apart room =
    let z : length l₁ ≡ length l = a.size in
    let v : ℕ = get_or l₁ (s + k) 0 ⊕ get_or t (64 * j + k) 0 in
    record {
      size = length-set l₁ _ _ ∙ a.size;
      inside = λ i h. elim (dec_lt i k) [
        | yes b ↦ get_or-set_other l₁ (at + k) (at + i) v 0 (λ e. omega arith) ∙ a.inside i b
        | no b ↦ (let e : i ≡ k = omega arith in
            ap (λ (x : ℕ). get_or (set l₁ (at + k) v) (at + x) 0) e ∙ get_or-set_same l₁ (at + k) v 0 (omega arith)
            ∙ ap (λ (x : ℕ). x ⊕ get_or t (64 * j + k) 0) (a.others (s + k) (inl (omega arith)))
            ∙ sym (ap (λ (x : ℕ). get_or l (s + x) 0 ⊕ get_or t (64 * j + x) 0) e))
      ];
      others = λ x h. get_or-set_other l₁ (at + k) x v 0 (apart_from at k x h) ∙ a.others x (less at k x h);
    }

-- zeros: none yet; one more
pub zeroed_none : (at : ℕ) (l : List ℕ) → Zeroed at 0 l l
zeroed_none at l = record { size = refl; inside = λ i h. absurd (omega arith); others = λ x h. refl }

pub zeroed_next : (at k : ℕ) (l l₁ : List ℕ) → Zeroed at k l l₁ → at + k < length l → Zeroed at (k + 1) l (set l₁ (at + k) 0)
zeroed_next at k l l₁ a room =
    let z : length l₁ ≡ length l = a.size in
    record {
      size = length-set l₁ _ _ ∙ a.size;
      inside = λ i h. elim (dec_lt i k) [
        | yes b ↦ get_or-set_other l₁ (at + k) (at + i) 0 0 (λ e. omega arith) ∙ a.inside i b
        | no b ↦ (let e : i ≡ k = omega arith in ap (λ (x : ℕ). get_or (set l₁ (at + k) 0) (at + x) 0) e ∙ get_or-set_same l₁ (at + k) 0 0 (omega arith))
      ];
      others = λ x h. get_or-set_other l₁ (at + k) x 0 0 (apart_from at k x h) ∙ a.others x (less at k x h);
    }

-- by what t, j and s are
pub put_by : {t u : List ℕ} {j k e f at n : ℕ} {l l' : List ℕ} (h : ℕ) → t ≡ u → j ≡ k → e ≡ f → Put t j (128 * e + h) at n l l' → Put u k (128 * f + h) at n l l'
put_by {t} {u} {j} {k} {e} {f} {at} {n} {l} {l'} h x y z p =
    subst (λ (t : List ℕ). Put t k (128 * f + h) at n l l') x (subst (λ (j : ℕ). Put t j (128 * f + h) at n l l') y (subst (λ (e : ℕ). Put t j (128 * e + h) at n l l') z p))

-- what is in another column is not in row q's half
pub outside : (q h x : ℕ) → h ≤ 64 → (x % 128 < h) ⊎ (h + 64 ≤ x % 128) → (x < 128 * q + h) ⊎ (128 * q + h + 64 ≤ x)
outside q h x l o = elim (dec_lt x (128 * q + h)) [ yes k ↦ inl k | no k ↦ inr (go o (omega arith)) ]
  where
    go : (x % 128 < h) ⊎ (h + 64 ≤ x % 128) → 128 * q + h ≤ x → 128 * q + h + 64 ≤ x
    go (inl i) k = omega arith
    go (inr i) k = omega arith

pub outside_first : (h x : ℕ) → h ≤ 64 → (x % 128 < h) ⊎ (h + 64 ≤ x % 128) → (x < h) ⊎ (h + 64 ≤ x)
outside_first h x l o = go (outside 0 h x l o)
  where
    go : (x < 128 * 0 + h) ⊎ (128 * 0 + h + 64 ≤ x) → (x < h) ⊎ (h + 64 ≤ x)
    go (inl k) = inl (omega arith)
    go (inr k) = inr (omega arith)

-- 64 columns: row 0; a row more
module _ (m : ℕ) (a : List ℕ) (h : ℕ) where
  pub columns-start : (l l' : List ℕ) → length l ≡ 5120 → Zeroed h 64 l l' → Columns m a h 1 l'
  unfolding factor_at
  columns-start l l' z e = record {
    size = e.size ∙ z;
    entries = λ q i k b.
        (let x : 128 * q + h + i ≡ h + i = omega arith in
        let y : q ≡ 0 = omega arith in
        ap (λ (x : ℕ). get_or l' x 0) x ∙ e.inside i b ∙ sym (ap (λ (x : ℕ). mul m (get_or a i 0) (factor_at x)) y ∙ mul-zero m (get_or a i 0)));
  }

  multiple_at : (i j : ℕ) → i < 64 → j < 13 → get_or (multiples_of m a) (64 * j + i) 0 ≡ mul m (get_or a i 0) (2 ^ j)
  multiple_at i j b k =
      let c : (64 * j + i) % 64 ≡ i = omega arith in
      let d : (64 * j + i) / 64 ≡ j = omega arith in
      multiples_at m a (64 * j + i) (omega arith) ∙ ap₂ (λ (x y : ℕ). mul m (get_or a x 0) (2 ^ y)) c d

  pub columns-next : (q : ℕ) (l l' : List ℕ) → 0 < q → q < 40 → Columns m a h q l
      → Put (multiples_of m a) (get_or digit_places q 0) (128 * get_or earlier_rows q 0 + h) (128 * q + h) 64 l l' → Columns m a h (q + 1) l'
  columns-next q l l' pos k c p = record {
    size = p.size ∙ c.size;
    entries = λ x i b d. elim (dec_lt x q) [
      | yes e ↦ p.others (128 * x + h + i) (inl (omega arith)) ∙ c.entries x i e d
      | no e ↦ (let y : x ≡ q = omega arith in
          ap (λ (x : ℕ). get_or l' (128 * x + h + i) 0) y ∙ p.inside i d
          ∙ ap₂ ◌⊕◌ (c.entries (get_or earlier_rows q 0) i (earlier_lt q pos k) d) (multiple_at i (get_or digit_places q 0) d (digit_lt q pos k))
          ∙ sym (mul-add m (get_or a i 0) _ _) ∙ ap (mul m (get_or a i 0)) (factor_sum q pos k ∙ ap factor_at (sym y)))
    ];
  }

-- 64 columns that are as they were
pub columns-kept : (m : ℕ) (a : List ℕ) (h e : ℕ) (l l' : List ℕ) → length l' ≡ 5120 → Columns m a h e l
    → ((q i : ℕ) → i < 64 → get_or l' (128 * q + h + i) 0 ≡ get_or l (128 * q + h + i) 0) → Columns m a h e l'
columns-kept m a h e l l' z c k = record { size = z; entries = λ q i b d. k q i d ∙ c.entries q i b d }

-- both halves: the second has the coefficients from 64 on
module _ (m : ℕ) (a b l : List ℕ) (n : ℕ) (split : n ≡ min (length a) 64) (rest : b ≡ take (length a - n) (drop n a)) where
  tail_at : (k : ℕ) → get_or b k 0 ≡ get_or a (64 + k) 0
  tail_at k = ap (λ (x : List ℕ). get_or x k 0) (rest ∙ take_all (length a - n) (drop n a) (omega (arith, length-drop n a))) ∙ get_or-drop n a k 0 ∙ elim (dec_lt (length a) 64) [
    | yes h ↦ get_or-eq_default a 0 {n = n + k} (omega arith) ∙ sym (get_or-eq_default a 0 {n = 64 + k} (omega arith))
    | no h ↦ (let e : n ≡ 64 = omega arith in ap (λ (x : ℕ). get_or a (x + k) 0) e)
  ]

  pub table_all : Columns m a 0 40 l → Columns m b 64 40 l → l ≡ table_of m a
  table_all c d = ext_get_or 0 l (table_of m a) (c.size ∙ sym (length_table m a)) λ x h.
      let q : ℕ = x / 128 in
      let i : ℕ = x % 128 in
      let z : length l ≡ 5120 = c.size in
      elim (dec_lt i 64) [
        | yes k ↦ (let e : x ≡ 128 * q + 0 + i = omega arith in
            ap (λ (x : ℕ). get_or l x 0) e ∙ c.entries q i (omega arith) k ∙ sym (table_at m a x (omega arith)))
        | no k ↦ (let e : x ≡ 128 * q + 64 + (i - 64) = omega arith in
            let f : 64 + (i - 64) ≡ i = omega arith in
            ap (λ (x : ℕ). get_or l x 0) e ∙ d.entries q (i - 64) (omega arith) (omega arith)
            ∙ ap (λ (y : ℕ). mul m y (factor_at q)) (tail_at (i - 64) ∙ ap (λ (y : ℕ). get_or a y 0) f) ∙ sym (table_at m a x (omega arith)))
      ]
