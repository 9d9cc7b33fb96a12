-- Exclusive or is an abelian group in which every element is its own inverse; halves, doubles and digits go through it.
-- Assumes nothing.
use mathlib.Core.Path.{◌≡◌, refl, sym, ap, ap₂, ◌∙◌}
use Prim.Native.Nat.{ℕ, zero, suc, ◌+◌, ◌*◌, ◌/◌, ◌%◌, ◌^◌, ◌<◌}
use native.Mathlib.Nat.{mod-lt, zero-lt-suc, le_of_suc-le-suc, not-suc-le-zero, mul-div_cancel, mul-mod_left, add-zero, zero-mul, one-mul}
use native.Mathlib.Omega.{arith}
use lib.Arith.{bin_ind}
use lib.Bits.{differ, xor_zero_r}
use lib.Bits as base
use Rattle.bits.specs.Xor.{◌⊕◌}

-- a digit
pub data Digit : ℕ → Type 0 where
  off : Digit 0
  on : Digit 1

pub digit : {d : ℕ} → d < 2 → Digit d
digit {d = zero} h = off
digit {d = suc zero} h = on
digit {d = suc (suc d)} h = absurd (not-suc-le-zero (le_of_suc-le-suc (le_of_suc-le-suc h)))

pub low : (a : ℕ) → Digit (a % 2)
low a = digit (mod-lt a (zero-lt-suc 1))

pub xor_comm : (a b : ℕ) → a ⊕ b ≡ b ⊕ a
unfolding ◌⊕◌
xor_comm = base.xor_comm

pub xor_self : (a : ℕ) → a ⊕ a ≡ zero
unfolding ◌⊕◌
xor_self = base.xor_self

pub zero_xor : (a : ℕ) → zero ⊕ a ≡ a
unfolding ◌⊕◌
zero_xor a = refl

pub xor-zero : (a : ℕ) → a ⊕ zero ≡ a
unfolding ◌⊕◌
xor-zero = xor_zero_r

pub xor_step : (a b : ℕ) → a ⊕ b ≡ (a / 2 ⊕ b / 2) * 2 + differ (a % 2) (b % 2)
unfolding ◌⊕◌
xor_step = base.xor_step

pub xor_shr : (a b k : ℕ) → (a ⊕ b) / 2 ^ k ≡ a / 2 ^ k ⊕ b / 2 ^ k
unfolding ◌⊕◌
xor_shr = base.xor_shr

pub xor_lt : (k : ℕ) {a b : ℕ} → a < 2 ^ k → b < 2 ^ k → a ⊕ b < 2 ^ k
unfolding ◌⊕◌
xor_lt k {a} {b} = base.xor_lt k a b

-- digits apart: a sum is `+`
pub xor_shifted : (a k b : ℕ) → b < 2 ^ k → a * 2 ^ k ⊕ b ≡ a * 2 ^ k + b
unfolding ◌⊕◌
xor_shifted = base.xor_shifted

pub xor_mod : (a b k : ℕ) → (a ⊕ b) % 2 ^ k ≡ a % 2 ^ k ⊕ b % 2 ^ k
unfolding ◌⊕◌
xor_mod = base.xor_mod

differ_digit : {x y : ℕ} → Digit x → Digit y → x ⊕ y ≡ differ x y
unfolding ◌⊕◌
differ_digit off q = refl
differ_digit on off = refl
differ_digit on on = refl

pub xor_low : (a b : ℕ) → (a ⊕ b) % 2 ≡ differ (a % 2) (b % 2)
xor_low a b = xor_mod a b 1 ∙ differ_digit (low a) (low b)

differ_assoc : {x y z : ℕ} → Digit x → Digit y → Digit z → differ (differ x y) z ≡ differ x (differ y z)
differ_assoc off q r = refl
differ_assoc on off r = refl
differ_assoc on on off = refl
differ_assoc on on on = refl

pub xor_assoc : (a b c : ℕ) → a ⊕ b ⊕ c ≡ a ⊕ (b ⊕ c)
xor_assoc = bin_ind (λ (n : ℕ). (b c : ℕ) → n ⊕ b ⊕ c ≡ n ⊕ (b ⊕ c)) (λ b c. simp zero_xor) step
  where
    step : (n : ℕ) → ((b c : ℕ) → n / 2 ⊕ b ⊕ c ≡ n / 2 ⊕ (b ⊕ c)) → (b c : ℕ) → n ⊕ b ⊕ c ≡ n ⊕ (b ⊕ c)
    step n ih b c =
        xor_step (n ⊕ b) c
        ∙ ap₂ (λ (x y : ℕ). x * 2 + y)
        (ap (λ (x : ℕ). x ⊕ c / 2) (xor_shr n b 1) ∙ ih (b / 2) (c / 2) ∙ ap (◌⊕◌ (n / 2)) (sym (xor_shr b c 1)))
        (ap (λ (x : ℕ). differ x (c % 2)) (xor_low n b) ∙ differ_assoc (low n) (low b) (low c) ∙ ap (differ (n % 2)) (sym (xor_low b c)))
        ∙ sym (xor_step n (b ⊕ c))

pub xor_left_comm : (a b c : ℕ) → a ⊕ (b ⊕ c) ≡ b ⊕ (a ⊕ c)
xor_left_comm a b c = sym (xor_assoc a b c) ∙ ap (λ (x : ℕ). x ⊕ c) (xor_comm a b) ∙ xor_assoc b a c

pub xor-four : (a b c d : ℕ) → a ⊕ b ⊕ (c ⊕ d) ≡ a ⊕ c ⊕ (b ⊕ d)
xor-four a b c d = simp (xor_assoc, xor_left_comm)

pub xor_cancel : (a b : ℕ) → a ⊕ (a ⊕ b) ≡ b
xor_cancel a b = sym (xor_assoc a a b) ∙ simp (xor_self, zero_xor)

-- what sums to 0 is equal
pub xor_eq : (a b : ℕ) → a ⊕ b ≡ zero → a ≡ b
xor_eq a b e = sym (xor-zero a) ∙ ap (◌⊕◌ a) (sym e) ∙ xor_cancel a b

pub xor_double : (a b : ℕ) → (a ⊕ b) * 2 ≡ a * 2 ⊕ b * 2
xor_double a b =
    sym (xor_step (a * 2) (b * 2)
    ∙ simp (mul-div_cancel a (zero-lt-suc 1), mul-div_cancel b (zero-lt-suc 1), mul-mod_left, add-zero))

-- a digit times a number is additive in both
pub differ_mul : {x y : ℕ} → Digit x → Digit y → (v : ℕ) → differ x y * v ≡ x * v ⊕ y * v
differ_mul off q v = simp (zero-mul, zero_xor)
differ_mul on off v = simp (zero-mul, xor-zero)
differ_mul on on v = simp (zero-mul, xor_self)

pub digit_mul : {x : ℕ} → Digit x → (v w : ℕ) → x * (v ⊕ w) ≡ x * v ⊕ x * w
digit_mul off v w = simp (zero-mul, zero_xor)
digit_mul on v w = simp one-mul

pub digit_lt : {x v n : ℕ} → Digit x → v < n → x * v < n
digit_lt off h = omega arith
digit_lt on h = omega arith

-- the sum of two digits
pub digit_xor : {x y : ℕ} → Digit x → Digit y → Digit (x ⊕ y)
unfolding ◌⊕◌
digit_xor off off = off
digit_xor off on = on
digit_xor on off = on
digit_xor on on = off
