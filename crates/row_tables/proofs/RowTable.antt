-- A table's entries, and a multiple of its row added to another. Assumes nothing.
use mathlib.Core.Path.{◌≡◌, refl, sym, ap, ap₂, ◌∙◌}
use mathlib.Core.List.{List, map}
use Prim.Native.Nat.{ℕ, ◌+◌, ◌-◌, ◌*◌, ◌/◌, ◌%◌, ◌^◌, ◌≤◌, ◌<◌}
use native.Mathlib.Nat.{zero-add, mod-lt}
use native.Mathlib.Numerals.{add-one}
use native.Mathlib.Omega.{arith}
use lib.Pow.{pow_pos, mod-pow-add, mod-mod-pow}
use lib.Bits.{bit_and, and_mask, mask_lt}
use lib.ListN.{length, get_or, take, set, length-map}
use lib.Seq.{ext_get_or}
use borrow.Author.Tests.{lt-ltb, le-ltb, eq-eqb, ne_eqb}
use Rattle.bits.specs.Xor.{◌⊕◌}
use Rattle.bits.specs.Bits.{from, each_with, xor_row}
use Rattle.bits.proofs.Xor.{xor_shifted, xor_comm}
use Rattle.bits.proofs.Lists.{from_at, length_from, length-map-from, map-from-at, map_at}
use Rattle.bits.proofs.Each.{length-each_with, each_with-nil, each_with-suc, each_with-take, each_with-at}
use Rattle.bits.proofs.Rows.{length-xor_row, get_d_xor_row}
use Rattle.field.specs.Field.{mul}
use Rattle.field.proofs.Table.{Width, width_narrow}
use Rattle.field.proofs.Laws.{mul_comm, mul-add, low-mul}
use Rattle.row_tables.specs.RowTable.{factor_at, table_of, table_in, entry_at, combination, add_multiple}

pub length_table : (m : ℕ) (a : List ℕ) → length (table_of m a) ≡ 5120
unfolding table_of
length_table m a = length-map-from (λ x. mul m (get_or a (x % 128) 0) (factor_at (x / 128))) 0 5120

pub table_in_all : (m : ℕ) (a l : List ℕ) → length l ≡ 5120 → table_in m a l ≡ table_of m a
unfolding table_in
table_in_all m a l e = rw (eq-eqb (length l) 5120 e)

pub table_in_none : (m : ℕ) (a l : List ℕ) → (length l ≡ 5120 → ⊥) → table_in m a l ≡ l
unfolding table_in
table_in_none m a l h = rw (ne_eqb (length l) 5120 h)

pub table_at : (m : ℕ) (a : List ℕ) (x : ℕ) → x < 5120 → get_or (table_of m a) x 0 ≡ mul m (get_or a (x % 128) 0) (factor_at (x / 128))
unfolding table_of
table_at m a x h =
    let f : ℕ → ℕ = λ x. mul m (get_or a (x % 128) 0) (factor_at (x / 128)) in
    map-from-at f 0 5120 x 0 h ∙ ap f (zero-add x)

-- where the four rows for c start
pub record Starts (c p q u v : ℕ) : Type 0 where
  pub first : p ≡ 128 * (c % 16)
  pub second : q ≡ 128 * (16 + c / 16 % 8)
  pub third : u ≡ 128 * (24 + c / 128 % 8)
  pub fourth : v ≡ 128 * (32 + c / 1024 % 8)
  pub inside : (p ≤ 4992) × (q ≤ 4992) × (u ≤ 4992) × (v ≤ 4992)

-- as the code masks them
pub starts : (c p q u v : ℕ) → p ≡ 128 * bit_and c 15 → q ≡ 128 * (16 + bit_and (c / 16) 7) → u ≡ 128 * (24 + bit_and (c / 128) 7) → v ≡ 128 * (32 + bit_and (c / 1024) 7) → Starts c p q u v
starts c p q u v a b d e = record {
  first = a ∙ ap (λ (x : ℕ). 128 * x) (and_mask c 4);
  second = b ∙ ap (λ (x : ℕ). 128 * (16 + x)) (and_mask (c / 16) 3);
  third = d ∙ ap (λ (x : ℕ). 128 * (24 + x)) (and_mask (c / 128) 3);
  fourth = e ∙ ap (λ (x : ℕ). 128 * (32 + x)) (and_mask (c / 1024) 3);
  inside = (omega (arith, mask_lt c 4), omega (arith, mask_lt (c / 16) 3), omega (arith, mask_lt (c / 128) 3), omega (arith, mask_lt (c / 1024) 3));
}

-- the first i places added: none yet; one more; all
module _ (t : List ℕ) (c : ℕ) (r : List ℕ) where
  abbrev step : ℕ → ℕ → ℕ
  step x i = x ⊕ combination t i c

  unfoldable pub added_to : ℕ → List ℕ
  added_to i = each_with step r (take i (from 0 128))

  pub added-start : r ≡ added_to 0
  unfolding added_to
  added-start = sym (each_with-nil step r)

  pub added_next : (i : ℕ) → i < 128 → i < length r → set (added_to i) i (get_or (added_to i) i 0 ⊕ combination t i c) ≡ added_to (i + 1)
  unfolding added_to
  added_next i h k =
      ap (λ (j : ℕ). set (added_to i) i (step (get_or (added_to i) i 0) j)) (sym (from_at 0 128 i 0 h ∙ zero-add i))
      ∙ each_with-suc step r (from 0 128) i (omega (arith, length_from 0 128)) k ∙ ap added_to (sym (add-one i))

  pub added_all : (i : ℕ) → (i < 128 → length r ≤ i) → added_to i ≡ add_multiple t c r
  unfolding added_to add_multiple
  added_all i h = each_with-take step r (from 0 128) i (λ l. h (omega (arith, length_from 0 128)))

  -- by the places where the four rows start
  pub combination-from : (p q u v i : ℕ) → p ≡ 128 * (c % 16) → q ≡ 128 * (16 + c / 16 % 8) → u ≡ 128 * (24 + c / 128 % 8) → v ≡ 128 * (32 + c / 1024 % 8)
      → get_or t (p + i) 0 ⊕ get_or t (q + i) 0 ⊕ get_or t (u + i) 0 ⊕ get_or t (v + i) 0 ≡ combination t i c
  unfolding combination entry_at
  combination-from p q u v i a b d e = rw (a, b, d, e)

pub length-add_multiple : (t : List ℕ) (c : ℕ) (r : List ℕ) → length (add_multiple t c r) ≡ length r
unfolding add_multiple
length-add_multiple t c r = length-each_with _ r (from 0 128)

-- what the four rows multiply by
factor_low : (c : ℕ) → factor_at (c % 16) ≡ c % 16
unfolding factor_at
factor_low c = rw (lt-ltb (c % 16) 16 (mod-lt c (omega arith)))

factor_window : (k d : ℕ) → d < 8 → 2 ≤ k → factor_at (8 * k + d) ≡ d * 2 ^ (3 * k - 2)
unfolding factor_at
factor_window k d h l =
    let e : (8 * k + d) % 8 ≡ d = omega arith in
    let f : (8 * k + d) / 8 ≡ k = omega arith in
    rw (le-ltb (8 * k + d) 16 (omega arith), e, f)

-- three digits more
more : (c k : ℕ) → c % 2 ^ k ⊕ c / 2 ^ k % 8 * 2 ^ k ≡ c % 2 ^ (k + 3)
more c k =
    let e : 3 + k ≡ k + 3 = omega arith in
    xor_comm (c % 2 ^ k) _ ∙ xor_shifted (c / 2 ^ k % 8) k (c % 2 ^ k) (mod-lt c (pow_pos k)) ∙ sym (mod-pow-add c 3 k) ∙ ap (λ (x : ℕ). c % 2 ^ x) e

module _ (m : ℕ) (w : Width m) (a : List ℕ) where
  entry-mul : (q i : ℕ) → q < 40 → i < 128 → entry_at (table_of m a) q i ≡ mul m (get_or a i 0) (factor_at q)
  unfolding entry_at
  entry-mul q i h k =
      let x : (128 * q + i) % 128 ≡ i = omega arith in
      let y : (128 * q + i) / 128 ≡ q = omega arith in
      table_at m a (128 * q + i) (omega arith) ∙ ap₂ (λ (x y : ℕ). mul m (get_or a x 0) (factor_at y)) x y

  module _ (i : ℕ) (h : i < 128) (c : ℕ) where
    low : entry_at (table_of m a) (c % 16) i ≡ mul m (get_or a i 0) (c % 16)
    low = let n : c % 16 < 16 = mod-lt c (omega arith) in entry-mul (c % 16) i (omega arith) h ∙ ap (mul m (get_or a i 0)) (factor_low c)

    window : (k s : ℕ) → 2 ≤ k → k < 5 → s ≡ 3 * k - 2 → entry_at (table_of m a) (8 * k + c / 2 ^ s % 8) i ≡ mul m (get_or a i 0) (c / 2 ^ s % 8 * 2 ^ s)
    window k s l n e =
        let d : c / 2 ^ s % 8 < 8 = mod-lt (c / 2 ^ s) (omega arith) in
        entry-mul (8 * k + c / 2 ^ s % 8) i (omega arith) h
        ∙ ap (mul m (get_or a i 0)) (factor_window k (c / 2 ^ s % 8) d l ∙ ap (λ (x : ℕ). c / 2 ^ s % 8 * 2 ^ x) (sym e))

  pub combination-mul : (i : ℕ) → i < 128 → (c : ℕ) → combination (table_of m a) i c ≡ mul m (get_or a i 0) c
  unfolding combination
  combination-mul i h c =
      let x : ℕ = get_or a i 0 in
      let n : m < 14 = width_narrow m w in
      let e : 13 ≡ 13 - m + m = omega arith in
      ap₂ ◌⊕◌ (ap₂ ◌⊕◌ (ap₂ ◌⊕◌ (low i h c) (window i h c 2 4 (omega arith) (omega arith) refl)) (window i h c 3 7 (omega arith) (omega arith) refl)) (window i h c 4 10 (omega arith) (omega arith) refl)
      ∙ sym (mul-add m x _ _ ∙ ap (λ (y : ℕ). y ⊕ mul m x (c / 1024 % 8 * 1024)) (mul-add m x _ _ ∙ ap (λ (y : ℕ). y ⊕ mul m x (c / 128 % 8 * 128)) (mul-add m x _ _)))
      ∙ ap (mul m x) (ap (λ (y : ℕ). y ⊕ c / 128 % 8 * 128 ⊕ c / 1024 % 8 * 1024) (more c 4) ∙ ap (λ (y : ℕ). y ⊕ c / 1024 % 8 * 1024) (more c 7) ∙ more c 10)
      ∙ sym (low-mul m x (c % 2 ^ 13))
      ∙ ap (mul m x) (ap (λ (k : ℕ). c % 2 ^ k % 2 ^ m) e ∙ mod-mod-pow c (13 - m) m)
      ∙ low-mul m x c

  -- the multiple of the row
  pub add_multiple_row : (c : ℕ) (r : List ℕ) → length r ≡ length a → length r ≤ 128 → add_multiple (table_of m a) c r ≡ xor_row r (map (mul m c) a)
  unfolding add_multiple
  add_multiple_row c r l h =
      let t : List ℕ = table_of m a in
      let step : ℕ → ℕ → ℕ = λ x i. x ⊕ combination t i c in
      let e : length (each_with step r (from 0 128)) ≡ length r = length-each_with step r (from 0 128) in
      let f : length (map (mul m c) a) ≡ length a = length-map a (mul m c) in
      ext_get_or 0 (each_with step r (from 0 128)) (xor_row r (map (mul m c) a)) (e ∙ sym (length-xor_row r (map (mul m c) a)))
      (λ i k.
      each_with-at step r (from 0 128) i (omega arith) (omega (arith, length_from 0 128))
      ∙ ap (λ (j : ℕ). get_or r i 0 ⊕ combination t j c) (from_at 0 128 i 0 (omega arith) ∙ zero-add i)
      ∙ ap (λ (x : ℕ). get_or r i 0 ⊕ x) (combination-mul i (omega arith) c ∙ mul_comm m (get_or a i 0) c ∙ sym (map_at (mul m c) a i 0 0 (omega arith)))
      ∙ sym (get_d_xor_row r (map (mul m c) a) i (omega arith)))
