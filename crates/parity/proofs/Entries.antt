-- The entries α^i / g(α) at all places, from one i to the next, and the rows of H that their digits are. Assumes nothing.
use mathlib.Core.Path.{◌≡◌, sym, ap, ap₂, ◌∙◌, fun_ext}
use mathlib.Core.List.{List, ◌++◌, map, map-map, map-append, zip_with}
use Prim.Native.Nat.{ℕ, ◌+◌, ◌*◌, ◌/◌, ◌%◌, ◌^◌}
use native.Mathlib.Nat.{zero-add, zero-mul, mul_comm}
use native.Mathlib.Numerals.{add-one}
use lib.ListN.{length, take}
use Rattle.bits.specs.Xor.{◌⊕◌}
use Rattle.bits.specs.Bits.{from, each_with}
use Rattle.bits.proofs.Xor.{xor-zero}
use Rattle.bits.proofs.Lists.{from-add, map-from}
use Rattle.bits.proofs.Each.{take-each_with}
use Rattle.field.specs.Field.{mul, power, inv}
use Rattle.field.specs.Poly.{horner_each}
use Rattle.field.proofs.Table.{Width}
use Rattle.field.proofs.Laws.{mul_assoc, one-mul, power_zero, power-suc, inv-lt}
use Rattle.field.proofs.Laws as field
use Rattle.field.proofs.Places.{horner_each_width, each_map}
use Rattle.key.specs.Keys.{Key, goppa_at, key_of}
use Rattle.code.specs.Code.{entry, parity_row, parity_rows}
use Rattle.code.specs.PublicKey.{Matrix}
use Rattle.code.specs.Lock.{rows_of}
use Rattle.code.proofs.Parity.{row_power, row_digit}
use Rattle.parity.specs.Rows.{digit_row, digit_rows, over_rows}

module _ (k : Key) where
  entry_zero : Width k.m → (a : ℕ) → inv k.m (goppa_at k a) ≡ entry k 0 a
  unfolding entry
  entry_zero w a =
      sym (ap (λ (x : ℕ). mul k.m x (inv k.m (goppa_at k a))) (power_zero k.m a) ∙ one-mul k.m w (inv-lt k.m (goppa_at k a)))

  entry_next : (i a : ℕ) → mul k.m (entry k i a) a ⊕ 0 ≡ entry k (i + 1) a
  unfolding entry
  entry_next i a =
      let m : ℕ = k.m in
      let v : ℕ = inv m (goppa_at k a) in
      xor-zero (mul m (mul m (power m a i) v) a)
      ∙ mul_assoc m (power m a i) v a ∙ ap (mul m (power m a i)) (field.mul_comm m v a) ∙ sym (mul_assoc m (power m a i) a v)
      ∙ ap (λ (x : ℕ). mul m x v) (sym (power-suc m a i) ∙ ap (power m a) (sym (add-one i)))

module _ (m : ℕ) (w : Width m) (s g : List ℕ) where
  -- 1/g(α) at all places, and the next power of α
  pub entries_start : (v : List ℕ) → v ≡ map (goppa_at (key_of m s g)) s → map (inv m) v ≡ map (entry (key_of m s g) 0) s
  unfolding key_of
  entries_start v e =
      ap (map (inv m)) e
      ∙ map-map (inv m) (goppa_at (key_of m s g)) s
      ∙ ap (λ f. map f s) (fun_ext (entry_zero (key_of m s g) w))

  pub entries_next : (i : ℕ) (p : List ℕ) → take (length s) p ≡ map (entry (key_of m s g) i) s
      → take (length s) (horner_each m 0 p s) ≡ map (entry (key_of m s g) (i + 1)) s
  unfolding key_of
  entries_next i p e =
      ap (take (length s)) (horner_each_width m 0 p s w)
      ∙ take-each_with (λ x a. mul m x a ⊕ 0) (length s) p s
      ∙ ap (λ (v : List ℕ). each_with (λ x a. mul m x a ⊕ 0) v s) e
      ∙ each_map (entry (key_of m s g) i) (λ x a. mul m x a ⊕ 0) s
      ∙ ap (λ f. map f s) (fun_ext (entry_next (key_of m s g) i))

  pub parity-start : (n : ℕ) (w : List ℕ) → rows_of (0 * m) n w ≡ over_rows (map (parity_row (key_of m s g)) (from 0 (0 * m))) (rows_of (0 * m) n w)
  unfolding rows_of from over_rows zip_with
  parity-start n w = rw (zero-mul m)

  -- their digits are the next m rows
  pub parity-next : (i : ℕ) → map (parity_row (key_of m s g)) (from 0 (i * m)) ++ digit_rows m (map (entry (key_of m s g) i) s)
      ≡ map (parity_row (key_of m s g)) (from 0 (i * m + m))
  unfolding digit_rows digit_row parity_row key_of
  parity-next i =
      let k : Key = key_of m s g in
      ap (λ (r : Matrix). map (parity_row k) (from 0 (i * m)) ++ r)
      (map-from (digit_row (map (entry k i) s)) (parity_row k) 0 (i * m) m
      (λ j l.
      ap (digit_row (map (entry k i) s)) (zero-add j)
      ∙ map-map (λ x. x / 2 ^ j % 2) (entry k i) s
      ∙ sym (ap₂ (λ (x y : ℕ). map (λ a. entry k x a / 2 ^ y % 2) s) (row_power m i j l) (row_digit m i j l))))
      ∙ sym (map-append (parity_row k) (from 0 (i * m)) (from (i * m) m))
      ∙ sym (ap (map (parity_row k)) (from-add 0 (i * m) m ∙ ap (λ (x : ℕ). from 0 (i * m) ++ from x m) (zero-add (i * m))))

  pub parity_all : (i : ℕ) → i ≡ length g → map (parity_row (key_of m s g)) (from 0 (i * m)) ≡ parity_rows (key_of m s g)
  unfolding parity_rows key_of
  parity_all i e = ap (λ (x : ℕ). map (parity_row (key_of m s g)) (from 0 x)) (ap (λ (j : ℕ). j * m) e ∙ mul_comm (length g) m)
