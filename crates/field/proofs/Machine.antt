-- What the code computes with shifts and masks. Assumes nothing.
use mathlib.Core.Path.{◌≡◌, ap, ap₂, ◌∙◌}
use Prim.Native.Nat.{ℕ, ◌-◌, ◌*◌, ◌/◌, ◌%◌, ◌^◌, ◌<◌}
use native.Mathlib.Nat.{mod-lt, mod-eq_of_lt, le_of_suc-le-suc, one-mul}
use native.Mathlib.Omega.{arith}
use lib.Pow.{pow_pos, pow_mono, pow-lt}
use lib.Bits.{bit_xor, bit_and, and_mask}
use Rattle.bits.specs.Xor.{◌⊕◌}
use Rattle.bits.proofs.Xor.{low, digit_lt}
use Rattle.field.proofs.Horner.{xtime}

-- `(x & 1) * v` fits where v does
pub masked_lt : (x : ℕ) {v n : ℕ} → v < n → bit_and x 1 * v < n
masked_lt x h = rw (and_mask x 1) (digit_lt (low x) h)

-- `1 << m` of w digits
pub one_shl_digits : (m w : ℕ) → m < w → 1 * 2 ^ m % 2 ^ w ≡ 2 ^ m
one_shl_digits m w h = ap (λ (x : ℕ). x % 2 ^ w) (one-mul (2 ^ m)) ∙ mod-eq_of_lt (pow-lt h)

module _ (m : ℕ) (s : m < 14) where
  pub one_shl : 1 * 2 ^ m % 65536 ≡ 2 ^ m
  one_shl = one_shl_digits m 16 (omega arith)

  -- `a & ((1 << m) - 1)`
  pub low-digits : (a : ℕ) → bit_and a (1 * 2 ^ m % 65536 - 1) ≡ a % 2 ^ m
  low-digits a = ap (λ (x : ℕ). bit_and a (x - 1)) one_shl ∙ and_mask a m

  pub low-digits-lt : (a : ℕ) → bit_and a (1 * 2 ^ m % 65536 - 1) < 2 ^ m
  low-digits-lt a = rw (low-digits a) (mod-lt a (pow_pos m))

  -- the body of the product's loop
  pub step_law : (f a b k r : ℕ) → r < 2 ^ m
      → bit_xor (bit_xor (r * 2 % 65536) (bit_and (r * 2 % 65536 / 2 ^ m) 1 * f)) (bit_and (b / 2 ^ k) 1 * a)
      ≡ xtime m f r ⊕ b / 2 ^ k % 2 * a
  unfolding xtime ◌⊕◌
  step_law f a b k r h =
      let e : r * 2 % 65536 ≡ r * 2 = mod-eq_of_lt (omega (arith, pow_mono (le_of_suc-le-suc s))) in
      ap₂ (λ (d x : ℕ). bit_xor (bit_xor d (bit_and (d / 2 ^ m) 1 * f)) (x * a)) e (and_mask (b / 2 ^ k) 1)
      ∙ ap (λ (x : ℕ). bit_xor (bit_xor (r * 2) (x * f)) (b / 2 ^ k % 2 * a)) (and_mask (r * 2 / 2 ^ m) 1)
