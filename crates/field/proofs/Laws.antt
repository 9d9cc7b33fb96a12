-- GF(2^m): the field's laws, the inverse as a power, the square root. Where m is no width every product is 0, so the laws
-- that hold there too ask for no width. Assumes nothing.
use mathlib.Core.Path.{◌≡◌, refl, sym, ap, ap₂, ◌∙◌, fun_ext}
use mathlib.Core.Logic.{◌⊎◌, inl, inr, ⊎_elim}
use mathlib.Core.Bool.{false, cond}
use Prim.Native.Nat.{ℕ, zero, suc, ◌+◌, ◌-◌, ◌%◌, ◌^◌, ◌<◌}
use native.Mathlib.Nat.{mod-lt, mod-eq_of_lt, pos_of_ne-zero, add-zero, add-suc, pow-suc}
use native.Mathlib.Omega.{arith}
use lib.Dec.{eqb}
use lib.Pow.{pow_pos, pow-lt}
use borrow.Author.Tests.{eq-eqb, eqb-true}
use Rattle.bits.specs.Xor.{◌⊕◌}
use Rattle.bits.proofs.Xor.{xor_self, zero_xor, xor_lt, xor_eq}
use Rattle.field.specs.Field.{is_width, modulus_of, mul_mod, mul, power, last_below, inv}
use Rattle.field.proofs.Horner.{additive_zero}
use Rattle.field.proofs.Modular.{mul_mod_comm, mul_mod-add, mul_mod-low, mul_mod-lt, mul_mod_assoc, one_mul_mod_lem}
use Rattle.field.proofs.Inverses.{square, square_add as squareMod-add, frobenius, fermat, unit}
use Rattle.field.proofs.Table.{Width, by_width, width_over_one, width_pos, width_modulus, width_test}
use Rattle.field.proofs.Search.{last_below_passes, last_below-lt, last_below_none}

pub mul_at : (m : ℕ) → Width m → (a b : ℕ) → mul m a b ≡ mul_mod m (modulus_of m) a b
unfolding mul
mul_at m w a b = rw w

pub mul_none : (m : ℕ) → is_width m ≡ false → (a b : ℕ) → mul m a b ≡ 0
unfolding mul
mul_none m n a b = rw n

module _ (m : ℕ) where
  pub mul_comm : (a b : ℕ) → mul m a b ≡ mul m b a
  unfolding mul
  mul_comm a b = ap (λ (x : ℕ). cond (is_width m) x 0) (mul_mod_comm m (modulus_of m) a b)

  pub mul_low : (a b : ℕ) → mul m (a % 2 ^ m) b ≡ mul m a b
  unfolding mul
  mul_low a b = ap (λ (x : ℕ). cond (is_width m) x 0) (mul_mod-low m (modulus_of m) a b)

  pub mul-add : (a b c : ℕ) → mul m a (b ⊕ c) ≡ mul m a b ⊕ mul m a c
  mul-add a b c =
      by_width m (λ w. simp (mul_at m w) (mul_mod-add m (modulus_of m) a b c)) (λ n. simp (mul_none m n, zero_xor))

  pub mul_assoc : (a b c : ℕ) → mul m (mul m a b) c ≡ mul m a (mul m b c)
  mul_assoc a b c =
      by_width m (λ w. simp (mul_at m w) (mul_mod_assoc m (modulus_of m) (width_modulus m w) a b c)) (λ n. simp (mul_none m n))

  pub mul-lt : (a b : ℕ) → mul m a b < 2 ^ m
  mul-lt a b =
      by_width m (λ w. rw (mul_at m w) (mul_mod-lt m (modulus_of m) (width_modulus m w) a b))
      (λ n. rw (mul_none m n) (pow_pos m))

  pub low-mul : (a b : ℕ) → mul m a (b % 2 ^ m) ≡ mul m a b
  low-mul a b = mul_comm a (b % 2 ^ m) ∙ mul_low b a ∙ mul_comm b a

  pub add-mul : (a b c : ℕ) → mul m (a ⊕ b) c ≡ mul m a c ⊕ mul m b c
  add-mul a b c = mul_comm (a ⊕ b) c ∙ mul-add c a b ∙ ap₂ ◌⊕◌ (mul_comm c a) (mul_comm c b)

  pub mul-zero : (a : ℕ) → mul m a 0 ≡ 0
  mul-zero a = additive_zero (mul m a) (mul-add a)

  pub zero-mul : (a : ℕ) → mul m 0 a ≡ 0
  zero-mul a = mul_comm 0 a ∙ mul-zero a

  pub mul_left_comm : (a b c : ℕ) → mul m a (mul m b c) ≡ mul m b (mul m a c)
  mul_left_comm a b c = sym (mul_assoc a b c) ∙ ap (λ (x : ℕ). mul m x c) (mul_comm a b) ∙ mul_assoc b a c

  -- squares add
  pub square_add : (a b : ℕ) → mul m (a ⊕ b) (a ⊕ b) ≡ mul m a a ⊕ mul m b b
  unfolding square
  square_add a b =
      by_width m (λ w. simp (mul_at m w) (squareMod-add m (modulus_of m) a b)) (λ n. simp (mul_none m n, zero_xor))

module _ (m : ℕ) (w : Width m) where
  pub one_lt : 1 < 2 ^ m
  one_lt = pow-lt (width_pos m w)

  pub one_mul-low : (a : ℕ) → mul m 1 a ≡ a % 2 ^ m
  one_mul-low a = mul_at m w 1 a ∙ one_mul_mod_lem m (modulus_of m) (width_modulus m w) (width_pos m w) a

  pub one-mul : {a : ℕ} → a < 2 ^ m → mul m 1 a ≡ a
  one-mul {a} h = one_mul-low a ∙ mod-eq_of_lt h

  pub mul-one : {a : ℕ} → a < 2 ^ m → mul m a 1 ≡ a
  mul-one {a} h = mul_comm m a 1 ∙ one-mul h

-- powers
module _ (m a : ℕ) where
  pub power_zero : power m a 0 ≡ 1
  unfolding power
  power_zero = refl

  pub power-suc : (k : ℕ) → power m a (suc k) ≡ mul m (power m a k) a
  unfolding power
  power-suc k = refl

  pub power-low : (k : ℕ) → power m (a % 2 ^ m) k ≡ power m a k
  unfolding power
  power-low zero = refl
  power-low (suc k) = low-mul m _ a ∙ ap (λ (x : ℕ). mul m x a) (power-low k)

pub zero-power : (m k : ℕ) → power m 0 (suc k) ≡ 0
zero-power m k = power-suc m 0 k ∙ mul-zero m _

module _ (m : ℕ) (w : Width m) where
  pub power-lt : (a k : ℕ) → power m a k < 2 ^ m
  unfolding power
  power-lt a zero = one_lt m w
  power-lt a (suc k) = mul-lt m (power m a k) a

  pub power_one : {a : ℕ} → a < 2 ^ m → power m a 1 ≡ a
  power_one {a} h = power-suc m a 0 ∙ ap (λ (x : ℕ). mul m x a) (power_zero m a) ∙ one-mul m w h

  pub power-add : (a i j : ℕ) → power m a (i + j) ≡ mul m (power m a i) (power m a j)
  unfolding power
  power-add a i zero = ap (power m a) (add-zero i) ∙ sym (mul-one m w (power-lt a i))
  power-add a i (suc j) =
      ap (power m a) (add-suc i j) ∙ ap (λ (x : ℕ). mul m x a) (power-add a i j) ∙ mul_assoc m _ _ a

  pub mul_power : (a b k : ℕ) → power m (mul m a b) k ≡ mul m (power m a k) (power m b k)
  unfolding power
  mul_power a b zero = sym (one-mul m w (one_lt m w))
  mul_power a b (suc k) = ap (λ (x : ℕ). mul m x (mul m a b)) (mul_power a b k) ∙ four (power m a k) (power m b k) a b
    where
      four : (x y a b : ℕ) → mul m (mul m x y) (mul m a b) ≡ mul m (mul m x a) (mul m y b)
      four x y a b = simp (mul_assoc m, mul_left_comm m)

  pub power_double : (a k : ℕ) → power m a (2 ^ suc k) ≡ mul m (power m a (2 ^ k)) (power m a (2 ^ k))
  power_double a k =
      let e : 2 ^ suc k ≡ 2 ^ k + 2 ^ k = omega (arith, pow-suc 2 k) in ap (power m a) e ∙ power-add a (2 ^ k) (2 ^ k)

  -- the powers 2^k add
  pub add-power : (a b k : ℕ) → power m (a ⊕ b) (2 ^ k) ≡ power m a (2 ^ k) ⊕ power m b (2 ^ k)
  unfolding power
  add-power a b zero = mul-add m 1 a b
  add-power a b (suc k) =
      power_double (a ⊕ b) k ∙ ap (λ (x : ℕ). mul m x x) (add-power a b k) ∙ square_add m _ _
      ∙ sym (ap₂ ◌⊕◌ (power_double a k) (power_double b k))

  -- k squares are the power 2^k
  pub frobenius_power : (k : ℕ) {a : ℕ} → a < 2 ^ m → frobenius m (modulus_of m) k a ≡ power m a (2 ^ k)
  unfolding frobenius square
  frobenius_power zero h = sym (power_one h)
  frobenius_power (suc k) {a} h =
      sym (mul_at m w _ _) ∙ ap (λ (x : ℕ). mul m x x) (frobenius_power k h) ∙ sym (power_double a k)

  -- m squares give a back
  pub power_all : {a : ℕ} → a < 2 ^ m → power m a (2 ^ m) ≡ a
  power_all {a} h = sym (frobenius_power m h) ∙ fermat m (modulus_of m) (width_test m w).0 (width_test m w).1 a h

-- the power that is the inverse
module _ (m : ℕ) (w : Width m) {a : ℕ} (h : a < 2 ^ m) where
  recip : ℕ
  recip = power m a (2 ^ m - 2)

  recip_mul : mul m recip a ≡ power m a (2 ^ m - 1)
  unfolding recip
  recip_mul =
      let e : suc (2 ^ m - 2) ≡ 2 ^ m - 1 = omega (arith, one_lt m w) in
      sym (power-suc m a (2 ^ m - 2)) ∙ ap (power m a) e

  fixes : mul m (mul m recip a) a ≡ a
  fixes =
      let e : suc (2 ^ m - 1) ≡ 2 ^ m = omega (arith, pow_pos m) in
      ap (λ (x : ℕ). mul m x a) recip_mul ∙ sym (power-suc m a (2 ^ m - 1)) ∙ ap (power m a) e ∙ power_all m w h

  idempotent : mul m (mul m recip a) (mul m recip a) ≡ mul m recip a
  idempotent = mul_left_comm m (mul m recip a) recip a ∙ ap (mul m recip) fixes

  pub power_inverse : 0 < a → mul m a (power m a (2 ^ m - 2)) ≡ 1
  unfolding recip
  power_inverse p =
      mul_comm m a recip
      ∙ unit m (modulus_of m) (width_test m w).0 (width_test m w).1 (mul m recip a) a (mul-lt m recip a)
      (sym (mul_at m w _ _) ∙ idempotent) (sym (mul_at m w _ _) ∙ fixes) p

-- inverses
module _ (m : ℕ) where
  pub inv-lt : (a : ℕ) → inv m a < 2 ^ m
  unfolding inv
  inv-lt a = below (2 ^ m) (pow_pos m)
    where
      below : (n : ℕ) → 0 < n → last_below n (λ b. eqb (mul m a b) 1) < n
      below zero h = absurd (omega arith)
      below (suc n) h = last_below-lt _ n

  pub inv-low : (a : ℕ) → inv m (a % 2 ^ m) ≡ inv m a
  unfolding inv
  inv-low a = ap (last_below (2 ^ m)) (fun_ext (λ b. ap (λ (x : ℕ). eqb x 1) (mul_low m a b)))

  -- no element makes 1 of a, where every product is 0
  inv_none_of : (a : ℕ) → ((b : ℕ) → mul m a b ≡ 0) → inv m a ≡ 0
  unfolding inv
  inv_none_of a z = last_below_none (λ b. eqb (mul m a b) 1) (2 ^ m) (λ b l. ap (λ (x : ℕ). eqb x 1) (z b))

  pub inv-zero : inv m 0 ≡ 0
  inv-zero = inv_none_of 0 (zero-mul m)

  pub inv_none : is_width m ≡ false → (a : ℕ) → inv m a ≡ 0
  inv_none n a = inv_none_of a (mul_none m n a)

  -- what has an inverse below 2^m has this one
  found : (a b : ℕ) → b < 2 ^ m → mul m a b ≡ 1 → mul m a (inv m a) ≡ 1
  unfolding inv
  found a b h e = eqb-true _ 1 (last_below_passes (λ b. eqb (mul m a b) 1) (2 ^ m) b h (eq-eqb _ 1 e))

  pub mul_width : (a b : ℕ) → mul m a b ≡ 1 → Width m
  mul_width a b e = by_width m (λ w. w) (λ n. absurd (omega (arith, sym (mul_none m n a b) ∙ e)))

  pub inv_unique : (a b : ℕ) → b < 2 ^ m → mul m a b ≡ 1 → b ≡ inv m a
  inv_unique a b h e =
      sym (mul-one m w h) ∙ ap (mul m b) (sym (found a b h e)) ∙ mul_left_comm m b a (inv m a)
      ∙ sym (mul_assoc m a b (inv m a)) ∙ ap (λ (x : ℕ). mul m x (inv m a)) e ∙ one-mul m w (inv-lt a)
    where
      w : Width m
      w = mul_width a b e

module _ (m : ℕ) (w : Width m) where
  pub mul-inv : {a : ℕ} → a < 2 ^ m → 0 < a → mul m a (inv m a) ≡ 1
  mul-inv {a} h p = found m a (power m a (2 ^ m - 2)) (power-lt m w a _) (power_inverse m w h p)

  pub inv-mul : {a : ℕ} → a < 2 ^ m → 0 < a → mul m (inv m a) a ≡ 1
  inv-mul {a} h p = mul_comm m (inv m a) a ∙ mul-inv h p

  pub mul-inv-low : (a : ℕ) → (a % 2 ^ m ≡ 0 → ⊥) → mul m a (inv m a) ≡ 1
  mul-inv-low a n =
      sym (mul_low m a (inv m a)) ∙ ap (mul m (a % 2 ^ m)) (sym (inv-low m a))
      ∙ mul-inv (mod-lt a (pow_pos m)) (pos_of_ne-zero n)

  pub inv_one : inv m 1 ≡ 1
  inv_one = sym (inv_unique m 1 1 (one_lt m w) (one-mul m w (one_lt m w)))

  -- a^(2^m - 2) is the inverse
  pub inv-power : (a : ℕ) → inv m a ≡ power m a (2 ^ m - 2)
  inv-power a = sym (inv-low m a) ∙ below (a % 2 ^ m) (mod-lt a (pow_pos m)) ∙ power-low m a (2 ^ m - 2)
    where
      below : (a : ℕ) → a < 2 ^ m → inv m a ≡ power m a (2 ^ m - 2)
      below zero h =
          let e : 2 ^ m - 2 ≡ suc (2 ^ m - 3) = omega (arith, pow-lt {i = 1} {j = m} (width_over_one m w)) in
          inv-zero m ∙ sym (ap (power m 0) e ∙ zero-power m (2 ^ m - 3))
      below (suc a) h =
          sym (inv_unique m (suc a) (power m (suc a) (2 ^ m - 2)) (power-lt m w _ _) (power_inverse m w h (omega arith)))

  pub mul_cancel : {a b c : ℕ} → a < 2 ^ m → 0 < a → b < 2 ^ m → c < 2 ^ m → mul m a b ≡ mul m a c → b ≡ c
  mul_cancel {a} {b} {c} ha p hb hc e = sym (back hb) ∙ ap (mul m (inv m a)) e ∙ back hc
    where
      back : {b : ℕ} → b < 2 ^ m → mul m (inv m a) (mul m a b) ≡ b
      back {b} h = sym (mul_assoc m (inv m a) a b) ∙ ap (λ (x : ℕ). mul m x b) (inv-mul ha p) ∙ one-mul m w h

  -- no zero divisors
  pub mul_eq_zero : (a b : ℕ) → a < 2 ^ m → b < 2 ^ m → mul m a b ≡ 0 → (a ≡ 0) ⊎ (b ≡ 0)
  mul_eq_zero zero b ha hb e = inl refl
  mul_eq_zero (suc a) b ha hb e =
      inr (mul_cancel ha (omega arith) hb (pow_pos m) (e ∙ sym (mul-zero m (suc a))))

  pub inv_pos : {a : ℕ} → a < 2 ^ m → 0 < a → 0 < inv m a
  inv_pos {a} h p = pos_of_ne-zero (λ z. omega (arith, sym (mul-zero m a) ∙ ap (mul m a) (sym z) ∙ mul-inv h p))

  pub inv-inv : {a : ℕ} → a < 2 ^ m → inv m (inv m a) ≡ a
  inv-inv {a = zero} h = ap (inv m) (inv-zero m) ∙ inv-zero m
  inv-inv {a = suc a} h = sym (inv_unique m (inv m (suc a)) (suc a) h (inv-mul h (omega arith)))

pub inv_distrib : (m a b : ℕ) → inv m (mul m a b) ≡ mul m (inv m a) (inv m b)
inv_distrib m a b =
    by_width m
    (λ w. inv-power m w (mul m a b) ∙ mul_power m w a b (2 ^ m - 2) ∙ sym (ap₂ (mul m) (inv-power m w a) (inv-power m w b)))
    (λ n. inv_none m n (mul m a b) ∙ sym (mul_none m n (inv m a) (inv m b)))

-- the square root, a^(2^(m-1))
unfoldable pub sqrt : ℕ → ℕ → ℕ
sqrt m a = power m a (2 ^ (m - 1))

module _ (m : ℕ) (w : Width m) where
  pub sqrt_lt : (a : ℕ) → sqrt m a < 2 ^ m
  unfolding sqrt
  sqrt_lt a = power-lt m w a (2 ^ (m - 1))

  pub sqrt_square : {a : ℕ} → a < 2 ^ m → mul m (sqrt m a) (sqrt m a) ≡ a
  unfolding sqrt
  sqrt_square {a} h =
      let n : suc (m - 1) ≡ m = omega (arith, width_over_one m w) in
      sym (power_double m w a (m - 1)) ∙ ap (λ (k : ℕ). power m a (2 ^ k)) n ∙ power_all m w h

  pub sqrt_add : (a b : ℕ) → sqrt m (a ⊕ b) ≡ sqrt m a ⊕ sqrt m b
  unfolding sqrt
  sqrt_add a b = add-power m w a b (m - 1)

  pub square_inj : {a b : ℕ} → a < 2 ^ m → b < 2 ^ m → mul m a a ≡ mul m b b → a ≡ b
  square_inj {a} {b} ha hb e =
      xor_eq a b (⊎_elim (λ z. z) (λ z. z) (mul_eq_zero m w (a ⊕ b) (a ⊕ b) (xor_lt m ha hb) (xor_lt m ha hb) zero_square))
    where
      zero_square : mul m (a ⊕ b) (a ⊕ b) ≡ 0
      zero_square = square_add m a b ∙ ap (λ (x : ℕ). x ⊕ mul m b b) e ∙ xor_self (mul m b b)

  pub square_sqrt : {a : ℕ} → a < 2 ^ m → sqrt m (mul m a a) ≡ a
  square_sqrt {a} h = square_inj (sqrt_lt (mul m a a)) h (sqrt_square (mul-lt m a a))
