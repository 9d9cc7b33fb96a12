-- Sums of numbers that an index selects by its digits. Assumes nothing.
use mathlib.Core.Path.{◌≡◌, refl, sym, ap, ap₂, ◌∙◌}
use Prim.Native.Nat.{ℕ, zero, suc, ◌+◌, ◌-◌, ◌*◌, ◌/◌, ◌%◌, ◌^◌, ◌<◌, ◌≤◌}
use native.Mathlib.Nat.{div-eq_of_lt, zero-mul, one-mul, pow-suc, add-mul-div_right, add_comm}
use native.Mathlib.Omega.{arith}
use lib.Pow.{pow_pos, pow-add, high}
use Rattle.bits.specs.Xor.{◌⊕◌}
use Rattle.bits.proofs.Xor.{low, xor-zero, xor_lt, digit_lt}
use Rattle.field.specs.PointTable.{digit_sum}
use Rattle.field.proofs.Horner.{Additive, additive_zero, additive_digit}

-- an additive map goes through a sum
pub digit_sum-map : (g : ℕ → ℕ) → Additive g → (b : ℕ → ℕ) (n i : ℕ) → digit_sum n (λ j. g (b j)) i ≡ g (digit_sum n b i)
unfolding digit_sum
digit_sum-map g h b zero i = sym (additive_zero g h)
digit_sum-map g h b (suc n) i =
    ap₂ ◌⊕◌ (digit_sum-map g h b n i) (sym (additive_digit g h (low (i / 2 ^ n)) (b n))) ∙ sym (h (digit_sum n b i) (i / 2 ^ n % 2 * b n))

pub digit_sum-lt : (m : ℕ) (b : ℕ → ℕ) → ((j : ℕ) → b j < 2 ^ m) → (n i : ℕ) → digit_sum n b i < 2 ^ m
unfolding digit_sum
digit_sum-lt m b h zero i = pow_pos m
digit_sum-lt m b h (suc n) i = xor_lt m (digit_sum-lt m b h n i) (digit_lt (low (i / 2 ^ n)) (h n))

-- one number more in the basis: indices below 2^n, and 2^n more
digit_above : (n j i : ℕ) → j < n → (2 ^ n + i) / 2 ^ j % 2 ≡ i / 2 ^ j % 2
digit_above n j i h =
    let e : n ≡ suc (n - suc j) + j = omega arith in
    let p : 2 ^ n ≡ 2 ^ suc (n - suc j) * 2 ^ j = ap (λ (k : ℕ). 2 ^ k) e ∙ pow-add 2 (suc (n - suc j)) j in
    let d : (2 ^ n + i) / 2 ^ j ≡ i / 2 ^ j + 2 ^ suc (n - suc j) =
    ap (λ (x : ℕ). x / 2 ^ j) (add_comm (2 ^ n) i ∙ ap (◌+◌ i) p) ∙ add-mul-div_right i (2 ^ suc (n - suc j)) (pow_pos j) in
    ap (◌% 2) d ∙ omega (arith, pow-suc 2 (n - suc j))

module _ (b : ℕ → ℕ) where
  digits_above : (k n i : ℕ) → k ≤ n → digit_sum k b (2 ^ n + i) ≡ digit_sum k b i
  unfolding digit_sum
  digits_above zero n i h = refl
  digits_above (suc k) n i h = ap₂ (λ (x d : ℕ). x ⊕ d * b k) (digits_above k n i (omega arith)) (digit_above n k i h)

  pub digit_sum-low : (n i : ℕ) → i < 2 ^ n → digit_sum (suc n) b i ≡ digit_sum n b i
  unfolding digit_sum
  digit_sum-low n i h = ap (λ (d : ℕ). digit_sum n b i ⊕ d % 2 * b n) (div-eq_of_lt h) ∙ ap (◌⊕◌ (digit_sum n b i)) (zero-mul (b n)) ∙ xor-zero _

  pub digit_sum_high : (n i : ℕ) → i < 2 ^ n → digit_sum (suc n) b (2 ^ n + i) ≡ digit_sum n b i ⊕ b n
  unfolding digit_sum
  digit_sum_high n i h =
      let o : (2 ^ n + i) / 2 ^ n ≡ 1 = ap (λ (x : ℕ). (x + i) / 2 ^ n) (sym (one-mul (2 ^ n))) ∙ high 1 n h in
      ap₂ ◌⊕◌ (digits_above n n i (omega arith)) (ap (λ (d : ℕ). d % 2 * b n) o ∙ one-mul (b n))

  pub digit_sum-zero : (n : ℕ) → digit_sum n b 0 ≡ 0
  unfolding digit_sum
  digit_sum-zero zero = refl
  digit_sum-zero (suc n) =
      ap₂ (λ (x d : ℕ). x ⊕ d % 2 * b n) (digit_sum-zero n) (div-eq_of_lt (pow_pos n)) ∙ ap (◌⊕◌ 0) (zero-mul (b n)) ∙ xor-zero 0
