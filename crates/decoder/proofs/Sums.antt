-- The 2t sums of a word: they are elements, as many as 2t, and power sums over the word's points; two words have the same sums
-- exactly when they differ by a code word. Assumes nothing.
use mathlib.Core.Path.{◌≡◌, sym, ap, ap₂, ◌∙◌}
use mathlib.Core.Logic.{◌↔◌}
use mathlib.Core.Bool.{true}
use mathlib.Core.List.{List, map}
use Prim.Native.Nat.{ℕ, ◌+◌, ◌*◌, ◌^◌, ◌≤◌, ◌<◌}
use native.Mathlib.Nat.{zero-add}
use native.Mathlib.Omega.{arith}
use lib.ListN.{length, get_or}
use lib.Pow.{pow_pos}
use Rattle.bits.specs.Xor.{◌⊕◌}
use Rattle.bits.specs.Bits.{Row, from, every, xor_row, dot}
use Rattle.bits.proofs.Xor.{xor_self, xor_eq}
use Rattle.bits.proofs.Lists.{length-map-from, map-from, map-from-at}
use Rattle.bits.proofs.Rows.{row_xor_row}
use Rattle.bits.proofs.Product.{dot-xor_row}
use Rattle.algebra.proofs.Points.{pow, power_sum}
use Rattle.field.specs.Field.{is_element, mul, power, inv}
use Rattle.field.proofs.Table.{Width}
use Rattle.field.proofs.Laws.{mul-lt}
use Rattle.field.proofs.Gf.{val, val_inj, val-zero, val-mul, val-power, times, laws}
use Rattle.field.proofs.Arrays.{Elements, elements-every, map-elements}
use Rattle.poly.specs.Register.{register_number}
use Rattle.poly.proofs.Answers.{number_none}
use Rattle.key.specs.Keys.{Key, goppa_at}
use Rattle.key.proofs.Accepted.{Accepted}
use Rattle.code.specs.Code.{in_code}
use Rattle.code.proofs.Parity.{dot-lt}
use Rattle.decoder.specs.Decoding.{square_entry, square_sums}
use Rattle.decoder.proofs.Words.{word_points, dot-total, inverse_weight}
use Rattle.decoder.proofs.Distance.{square_inverse, code_squares}

module _ (k : Key) (c : List ℕ) where
  -- the sum with α^s / g(α)²
  abbrev pub square_sum : ℕ → ℕ
  square_sum s = dot c (map (square_entry k s) k.support)

  pub length-square_sums : length (square_sums k c) ≡ 2 * k.t
  unfolding square_sums
  length-square_sums = length-map-from square_sum 0 (2 * k.t)

  pub square_sums-at : (s : ℕ) → s < 2 * k.t → get_or (square_sums k c) s 0 ≡ square_sum s
  unfolding square_sums
  square_sums-at s h = map-from-at square_sum 0 (2 * k.t) s 0 h ∙ ap square_sum (zero-add s)

-- the sums are elements, so that the register takes them
module _ (k : Key) {n : ℕ} {c : List ℕ} (r : Row n c) where
  pub square_sum_lt : (s : ℕ) → square_sum k c s < 2 ^ k.m
  unfolding square_entry
  square_sum_lt s = dot-lt k.m r (square_entry k s) (λ a. mul-lt k.m _ _) k.support

  pub square_sums-elements : Elements k.m (square_sums k c)
  unfolding square_sums
  square_sums-elements = map-elements k.m (square_sum k c) square_sum_lt (from 0 (2 * k.t))

  pub square_sums-every : every (is_element k.m) (square_sums k c) ≡ true
  square_sums-every = elements-every k.m (square_sums k c) square_sums-elements

  pub square_sums-number : Width k.m → k.t ≤ 128 → register_number k.m (square_sums k c) ≡ 0
  square_sums-number w few = number_none k.m (square_sums k c) w (omega (arith, length-square_sums k c, few)) square_sums-every

module _ (k : Key) (A : Accepted k) where
  square_weight : (s a : ℕ) → val k.m (square_entry k s a) ≡ times k.m (square_inverse k A (val k.m a)) (pow (laws k.m A.width) (val k.m a) s)
  unfolding square_entry square_inverse
  square_weight s a =
      val-mul k.m (power k.m a s) (mul k.m (inv k.m (goppa_at k a)) (inv k.m (goppa_at k a)))
      ∙ ap₂ (times k.m) (val-power k.m A.width a s)
      (val-mul k.m (inv k.m (goppa_at k a)) (inv k.m (goppa_at k a)) ∙ ap₂ (times k.m) (inverse_weight k A a) (inverse_weight k A a))
      ∙ (laws k.m A.width).mul_comm _ _

  -- the sums are power sums over the points
  pub square_sum_lem : {c : List ℕ} → Row k.n c → (s : ℕ)
      → val k.m (square_sum k c s) ≡ power_sum (laws k.m A.width) (square_inverse k A) s (word_points k c)
  square_sum_lem r s = dot-total k.m A.width (square_entry k s) _ (square_weight s) r k.support

  -- a word is in the code exactly when its sums are 0
  pub code-square_sums : {c : List ℕ} → Row k.n c → (in_code k c ≡ true) ↔ ((s : ℕ) → s < 2 * k.t → square_sum k c s ≡ 0)
  code-square_sums r = (
    λ h s b. val_inj k.m (square_sum_lt k r s) (pow_pos k.m) (square_sum_lem r s ∙ (code_squares k A r).0 h s (omega arith) ∙ sym (val-zero k.m)),
    λ h. (code_squares k A r).1 (λ s b. sym (square_sum_lem r s) ∙ ap (val k.m) (h s (omega arith)) ∙ val-zero k.m),
  )

  -- two words differ by a code word exactly when they have the same sums
  pub code_same : {w e : List ℕ} → Row k.n w → Row k.n e → (in_code k (xor_row w e) ≡ true) ↔ (square_sums k e ≡ square_sums k w)
  unfolding square_sums
  code_same {w} {e} a b = (
    λ h. map-from (square_sum k e) (square_sum k w) 0 0 (2 * k.t) (λ i l.
        sym (xor_eq _ _ (sym (dot-xor_row a b _) ∙ (code-square_sums (row_xor_row a b)).0 h (0 + i) (omega arith)))),
    λ h. (code-square_sums (row_xor_row a b)).1 (λ s l.
        dot-xor_row a b _
        ∙ ap (λ (x : ℕ). x ⊕ square_sum k e s) (sym (square_sums-at k w s l) ∙ ap (λ (x : List ℕ). get_or x s 0) (sym h) ∙ square_sums-at k e s l)
        ∙ xor_self _),
  )
