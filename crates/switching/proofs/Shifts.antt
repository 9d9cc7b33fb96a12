-- A position's source by shifts, masks and exclusive or. Assumes nothing.
use mathlib.Core.Path.{◌≡◌, refl, sym, ap, ap₂, ◌∙◌, subst}
use Prim.Native.Nat.{ℕ, ◌+◌, ◌-◌, ◌*◌, ◌/◌, ◌%◌, ◌^◌, ◌<◌}
use native.Mathlib.Nat.{mod-lt, mod-eq_of_lt, mul-mod_left, div-div-eq-div-mul, div-mul-le_self, one-mul, pow-succ'}
use native.Mathlib.Numerals.{add-one}
use native.Mathlib.Omega.{arith}
use lib.Bits.{differ, bit_xor, bit_and, and_mask}
use lib.Pow.{pow-lt, pow_pos, split, shl-shr, shl_exact}
use Rattle.bits.specs.Xor.{◌⊕◌}
use Rattle.bits.proofs.Xor.{Digit, off, on, digit, low, xor_shr, xor_mod, xor_step, xor-zero}
use Rattle.network.specs.Network.{exchange}

differ_one : {d : ℕ} → Digit d → differ d 1 ≡ (d + 1) % 2
differ_one off = refl
differ_one on = refl

-- a digit added to the lowest one
xor_digit : {e : ℕ} (q : ℕ) → Digit e → q ⊕ e ≡ q / 2 * 2 + (q + e) % 2
xor_digit q off = xor-zero q ∙ (omega arith)
xor_digit q on =
    xor_step q 1
    ∙ ap₂ (λ (h d : ℕ). h * 2 + d) (xor-zero (q / 2)) (differ_one (low q))
    ∙ (omega arith)

join : (h d w r : ℕ) → (h * 2 + d) * w + r ≡ h * (2 * w) + d * w + r
join h d w r = omega arith

-- a digit added to the one of value 2^k
pub turned : (x k e : ℕ) → e < 2 → x ⊕ e * 2 ^ k ≡ x / (2 * 2 ^ k) * (2 * 2 ^ k) + (x / 2 ^ k + e) % 2 * 2 ^ k + x % 2 ^ k
turned x k e h =
    let w : ℕ = 2 ^ k in
    let q : ℕ = x / w in
    let z : ℕ = x ⊕ e * w in
    let a : z / w ≡ q / 2 * 2 + (q + e) % 2 = xor_shr x (e * w) k ∙ ap (◌⊕◌ q) (shl-shr e k) ∙ xor_digit q (digit h) in
    let b : z % w ≡ x % w = xor_mod x (e * w) k ∙ ap (◌⊕◌ (x % w)) (mul-mod_left e w) ∙ xor-zero (x % w) in
    let c : q / 2 ≡ x / (2 * w) = div-div-eq-div-mul x w 2 ∙ ap (◌/◌ x) (let f : w * 2 ≡ 2 * w = omega arith in f) in
    sym (split z k)
    ∙ ap₂ (λ (y r : ℕ). y * w + r) a b
    ∙ join (q / 2) ((q + e) % 2) w (x % w)
    ∙ ap (λ (y : ℕ). y * (2 * w) + (q + e) % 2 * w + x % w) c

-- what the code computes for a position of 16 digits
module _ (x k : ℕ) (a : x < 65536) (b : k < 16) where
  pub one_shifted : 1 * 2 ^ k % 2 ^ 64 ≡ 2 ^ k
  one_shifted = shl_exact {a = 1} 1 k 64 (omega arith) (omega arith) ∙ one-mul (2 ^ k)

  pub low-digits : bit_and x (1 * 2 ^ k % 2 ^ 64 - 1) ≡ x % 2 ^ k
  low-digits = ap (λ (w : ℕ). bit_and x (w - 1)) one_shifted ∙ and_mask x k

  behind : x / 2 ^ (k + 1) ≡ x / (2 * 2 ^ k)
  behind = ap (◌/◌ x) (ap (2 ^◌) (add-one k) ∙ pow-succ' 2 k)

  -- the number of the position's switch
  switch_small : x / (2 * 2 ^ k) * 2 ^ k + x % 2 ^ k < 2 ^ 17
  switch_small =
      let p = div-mul-le_self x (2 * 2 ^ k) in
      let q = mod-lt x (pow_pos k) in
      let w = pow-lt {i = k} {j = 16} b in omega arith

  high_digits : x / 2 ^ (k + 1) * 2 ^ k % 2 ^ 64 ≡ x / (2 * 2 ^ k) * 2 ^ k
  high_digits = ap (λ (h : ℕ). h * 2 ^ k % 2 ^ 64) behind ∙ mod-eq_of_lt (omega (arith, switch_small))

  pub switch_of : x / 2 ^ (k + 1) * 2 ^ k % 2 ^ 64 + bit_and x (1 * 2 ^ k % 2 ^ 64 - 1) ≡ x / (2 * 2 ^ k) * 2 ^ k + x % 2 ^ k
  switch_of = ap₂ ◌+◌ high_digits low-digits

  pub switch_fits : x / 2 ^ (k + 1) * 2 ^ k % 2 ^ 64 + bit_and x (1 * 2 ^ k % 2 ^ 64 - 1) < 2 ^ 17
  switch_fits = subst (◌< 2 ^ 17) (sym switch_of) switch_small

  -- the position with the setting added
  pub source_of : (f : ℕ → ℕ) (e : ℕ) → e ≡ f (x / 2 ^ (k + 1) * 2 ^ k % 2 ^ 64 + bit_and x (1 * 2 ^ k % 2 ^ 64 - 1)) → e < 2
      → bit_xor x (e * 2 ^ k % 65536) ≡ exchange (2 ^ k) f x
  unfolding exchange ◌⊕◌
  source_of f e q s =
      ap (bit_xor x) (shl_exact 1 k 16 s (omega arith))
      ∙ turned x k e s
      ∙ ap (λ (d : ℕ). x / (2 * 2 ^ k) * (2 * 2 ^ k) + (x / 2 ^ k + d) % 2 * 2 ^ k + x % 2 ^ k) (q ∙ ap f switch_of)
