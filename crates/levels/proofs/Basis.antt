-- A level's points divided by its last one, and the next level's; independence, which the next level's basis keeps, so that no level
-- divides by 0. Assumes nothing.
use mathlib.Core.Path.{◌≡◌, sym, ap, ap₂, ◌∙◌}
use mathlib.Core.Logic.{◌⊎◌, ⊎_elim}
use Prim.Native.Nat.{ℕ, suc, ◌+◌, ◌%◌, ◌^◌, ◌<◌}
use native.Mathlib.Nat.{pow-suc, pos_of_ne-zero, mod-eq_of_lt}
use native.Mathlib.Omega.{arith}
use lib.Pow.{pow_pos}
use Rattle.bits.specs.Xor.{◌⊕◌}
use Rattle.bits.proofs.Xor.{xor_self, xor-zero, xor_assoc, xor_left_comm, xor_lt, xor_eq}
use Rattle.field.specs.Field.{mul, inv}
use Rattle.field.specs.PointTable.{digit_sum}
use Rattle.field.proofs.DigitSums.{digit_sum-map, digit_sum-lt, digit_sum-low, digit_sum_high, digit_sum-zero}
use Rattle.field.proofs.Table.{Width}
use Rattle.field.proofs.Laws.{mul_comm, mul-add, add-mul, mul_left_comm, mul-lt, mul-zero, one_lt, one-mul, one_mul-low, mul-one, mul-inv, mul_eq_zero, square_add}

-- t = x/b, and the next level's t² + t
unfoldable pub over : ℕ → ℕ → ℕ → ℕ
over m b x = mul m x (inv m b)

unfoldable pub under : ℕ → ℕ → ℕ → ℕ
under m b x = mul m (over m b x) (over m b x) ⊕ over m b x

module _ (m b : ℕ) where
  pub over_add : (x z : ℕ) → over m b (x ⊕ z) ≡ over m b x ⊕ over m b z
  unfolding over
  over_add x z = add-mul m x z (inv m b)

  pub under_add : (x z : ℕ) → under m b (x ⊕ z) ≡ under m b x ⊕ under m b z
  unfolding under
  under_add x z =
      ap (λ (t : ℕ). mul m t t ⊕ t) (over_add x z)
      ∙ ap (λ (s : ℕ). s ⊕ (over m b x ⊕ over m b z)) (square_add m _ _) ∙ simp (xor_assoc, xor_left_comm)

  pub over-lt : (x : ℕ) → over m b x < 2 ^ m
  unfolding over
  over-lt x = mul-lt m x (inv m b)

  pub under_lt : (x : ℕ) → under m b x < 2 ^ m
  unfolding under
  under_lt x = xor_lt m (mul-lt m _ _) (over-lt x)

module _ (m : ℕ) (w : Width m) (b : ℕ) (small : b < 2 ^ m) (pos : 0 < b) where
  pub over_self : over m b b ≡ 1
  unfolding over
  over_self = mul-inv m w small pos

  pub under_self : under m b b ≡ 0
  unfolding under
  under_self = ap (λ (t : ℕ). mul m t t ⊕ t) over_self ∙ ap (λ (t : ℕ). t ⊕ 1) (one-mul m w (one_lt m w)) ∙ xor_self 1

  pub back : (x : ℕ) → mul m b (over m b x) ≡ x % 2 ^ m
  unfolding over
  back x = mul_left_comm m b x (inv m b) ∙ ap (mul m x) (mul-inv m w small pos) ∙ mul_comm m x 1 ∙ one_mul_mod x
    where
      one_mul_mod : (x : ℕ) → mul m 1 x ≡ x % 2 ^ m
      one_mul_mod x = one_mul-low m w x

-- only the index 0 has the sum 0
abbrev pub Independent : ℕ → (ℕ → ℕ) → Type 0
Independent n b = (i : ℕ) → i < 2 ^ n → digit_sum n b i ≡ 0 → i ≡ 0

module _ (b : ℕ → ℕ) where
  -- the last number is not 0
  pub independent_top : (n : ℕ) → Independent (suc n) b → 0 < b n
  independent_top n h = pos_of_ne-zero λ z.
      omega (arith, pow_pos n, h (2 ^ n + 0) (omega (arith, pow-suc 2 n, pow_pos n)) (digit_sum_high b n 0 (pow_pos n) ∙ ap₂ ◌⊕◌ (digit_sum-zero b n) z ∙ xor-zero 0))

-- the next level's basis is independent: t² + t is 0 only for 0 and 1
under_zero : (m : ℕ) → Width m → (b x : ℕ) → under m b x ≡ 0 → (over m b x ≡ 0) ⊎ (over m b x ⊕ 1 ≡ 0)
unfolding under
under_zero m w b x e =
    let t : ℕ = over m b x in
    mul_eq_zero m w t (t ⊕ 1) (over-lt m b x) (xor_lt m (over-lt m b x) (one_lt m w))
    (mul-add m t t 1 ∙ ap (◌⊕◌ (mul m t t)) (mul-one m w (over-lt m b x)) ∙ e)

module _ (m : ℕ) (w : Width m) (n : ℕ) (b : ℕ → ℕ) (small : (j : ℕ) → b j < 2 ^ m) (ind : Independent (suc n) b) where
  back_at : (i v : ℕ) → over m (b n) (digit_sum n b i) ≡ v → digit_sum n b i ≡ mul m (b n) v
  back_at i v e =
      sym (mod-eq_of_lt (digit_sum-lt m b small n i)) ∙ sym (back m w (b n) (small n) (independent_top b n ind) (digit_sum n b i)) ∙ ap (mul m (b n)) e

  pub next_independent : Independent n (λ j. under m (b n) (b j))
  next_independent i h e =
      ⊎_elim
      (λ z. ind i (omega (arith, pow-suc 2 n)) (digit_sum-low b n i h ∙ back_at i 0 z ∙ mul-zero m (b n)))
      (λ z. absurd (omega (
        arith,
        pow_pos n,
        ind (2 ^ n + i) (omega (arith, pow-suc 2 n))
            (digit_sum_high b n i h ∙ ap (λ (x : ℕ). x ⊕ b n) (back_at i 1 (xor_eq (over m (b n) (digit_sum n b i)) 1 z) ∙ mul-one m w (small n)) ∙ xor_self (b n)),
      )))
      (under_zero m w (b n) (digit_sum n b i) (sym (digit_sum-map (under m (b n)) (under_add m (b n)) b n i) ∙ e))
