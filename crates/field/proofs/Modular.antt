-- The numbers below 2^m with the product modulo f are a commutative ring, for every width m and modulus f of degree m.
-- Assumes nothing.
use mathlib.Core.Path.{◌≡◌, sym, ap, ◌∙◌}
use Prim.Native.Nat.{ℕ, zero, suc, ◌*◌, ◌/◌, ◌%◌, ◌^◌, ◌≤◌, ◌<◌}
use native.Mathlib.Nat.{mod-lt, mod-eq_of_lt, mod-mod, zero-mul, one-mul, zero-div, div-eq_of_lt-le, div-lt_iff_lt-mul, le_refl, pow-suc}
use native.Mathlib.Omega.{arith}
use lib.Pow.{pow_pos, pow-lt}
use Rattle.bits.specs.Xor.{◌⊕◌}
use Rattle.bits.proofs.Xor.{Digit, off, on, digit, low, xor_self, zero_xor, xor_shr, xor_lt, digit_lt}
use Rattle.field.specs.Field.{mul_mod}
use Rattle.field.proofs.Horner.{Additive, additive_zero, xtime, horner, horner_comm, add_horner, horner_one, mul_mod_horner}

-- f has degree m
pub record Modulus (m f : ℕ) : Type 0 where
  pub lo : 2 ^ m ≤ f
  pub hi : f < 2 ^ suc m

module _ (m f : ℕ) where
  -- a is what its polynomial makes of 1
  mul_mod_one_horner : (a b : ℕ) → mul_mod m f a b ≡ horner m f m b (horner m f m a 1)
  mul_mod_one_horner a b = mul_mod_horner m f a b ∙ ap (horner m f m b) (sym (horner_one m f m a (le_refl m)))

  pub mul_mod_comm : (a b : ℕ) → mul_mod m f a b ≡ mul_mod m f b a
  mul_mod_comm a b = mul_mod_one_horner a b ∙ horner_comm m f m b m a 1 ∙ sym (mul_mod_one_horner b a)

  pub mul_mod-add : (a : ℕ) → Additive (mul_mod m f a)
  mul_mod-add a b c = simp mul_mod_horner (add_horner m f m (a % 2 ^ m) b c)

  pub add-mul_mod : (c : ℕ) → Additive (λ a. mul_mod m f a c)
  add-mul_mod c a b = simp (mul_mod_comm (a ⊕ b) c, mul_mod_comm a c, mul_mod_comm b c) (mul_mod-add c a b)

  pub mul_mod-zero : (a : ℕ) → mul_mod m f a 0 ≡ 0
  mul_mod-zero a = additive_zero (mul_mod m f a) (mul_mod-add a)

  pub mul_mod-low : (a b : ℕ) → mul_mod m f (a % 2 ^ m) b ≡ mul_mod m f a b
  mul_mod-low a b = mul_mod_horner m f (a % 2 ^ m) b ∙ ap (horner m f m b) (mod-mod a (2 ^ m)) ∙ sym (mul_mod_horner m f a b)

module _ (m f : ℕ) (M : Modulus m f) where
  -- the modulus clears the digit at 2^m
  cleared : {d : ℕ} → Digit d → d ⊕ d % 2 * f / 2 ^ m ≡ zero
  cleared off = ap (λ (x : ℕ). zero ⊕ x / 2 ^ m) (zero-mul f) ∙ ap (◌⊕◌ zero) (zero-div (2 ^ m)) ∙ zero_xor zero
  cleared on =
      ap (λ (x : ℕ). 1 ⊕ x / 2 ^ m) (one-mul f)
      ∙ ap (◌⊕◌ 1) (div-eq_of_lt-le (2 ^ m) (omega (arith, M.lo)) (omega (arith, M.hi, pow-suc 2 m))) ∙ xor_self 1

  pub xtime_lt : {a : ℕ} → a < 2 ^ m → xtime m f a < 2 ^ m
  unfolding xtime
  xtime_lt {a} h =
      let d : Digit (a * 2 / 2 ^ m) = digit ((div-lt_iff_lt-mul (pow_pos m)).1 (omega arith)) in
      let e : xtime m f a / 2 ^ m ≡ zero = xor_shr (a * 2) _ m ∙ cleared d
      in omega (arith, (div-lt_iff_lt-mul {x = xtime m f a} {y = 1} (pow_pos m)).0 (omega (arith, e)))

  pub horner_lt : (k b : ℕ) {v : ℕ} → v < 2 ^ m → horner m f k b v < 2 ^ m
  unfolding horner
  horner_lt zero b h = pow_pos m
  horner_lt (suc k) b h = xor_lt m (digit_lt (low b) h) (xtime_lt (horner_lt k (b / 2) h))

  pub mul_mod-lt : (a b : ℕ) → mul_mod m f a b < 2 ^ m
  mul_mod-lt a b = rw (mul_mod_horner m f a b) (horner_lt m b (mod-lt a (pow_pos m)))

  -- an operand below 2^m goes in as it is
  pub mul_mod_as_horner : {a : ℕ} (b : ℕ) → a < 2 ^ m → mul_mod m f a b ≡ horner m f m b a
  mul_mod_as_horner {a} b h = mul_mod_horner m f a b ∙ ap (horner m f m b) (mod-eq_of_lt h)

  pub mul_mod_assoc : (a b c : ℕ) → mul_mod m f (mul_mod m f a b) c ≡ mul_mod m f a (mul_mod m f b c)
  mul_mod_assoc a b c =
      mul_mod_as_horner c (mul_mod-lt a b) ∙ ap (horner m f m c) (mul_mod_comm m f a b ∙ mul_mod_horner m f b a)
      ∙ horner_comm m f m c m a (b % 2 ^ m) ∙ ap (horner m f m a) (sym (mul_mod_horner m f b c))
      ∙ sym (mul_mod_comm m f a (mul_mod m f b c) ∙ mul_mod_as_horner a (mul_mod-lt b c))

  pub one_mul_mod_lem : 0 < m → (a : ℕ) → mul_mod m f 1 a ≡ a % 2 ^ m
  one_mul_mod_lem p a = mul_mod_as_horner a (pow-lt p) ∙ horner_one m f m a (le_refl m)
