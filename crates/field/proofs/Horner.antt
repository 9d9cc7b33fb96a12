-- The product modulo f is Horner's rule: from the highest digit of b down, times z, reduced, plus the digit times a.
-- It is a sum in each operand, and two such operators commute. Assumes nothing.
use mathlib.Core.Path.{◌≡◌, refl, sym, ap, ap₂, ◌∙◌}
use Prim.Native.Nat.{ℕ, zero, suc, ◌+◌, ◌-◌, ◌*◌, ◌/◌, ◌%◌, ◌^◌, ◌≤◌, ◌<◌}
use native.Mathlib.Nat.{mod-lt, mod-one, mul-one, mul_assoc, zero-mul, one-mul, zero-lt-suc, zero-add, add-suc, suc-add, add-zero, sub_self, sub-zero, div-one, div-eq_of_lt, mul-div-mul_right, pow-suc}
use native.Mathlib.Omega.{arith}
use lib.Arith.{mod-mul}
use lib.Pow.{pow_pos, pow_mono, shr-shr}
use Rattle.bits.specs.Xor.{◌⊕◌}
use Rattle.bits.proofs.Xor.{Digit, off, on, low, xor_comm, xor_self, zero_xor, xor-zero, xor_shr, xor_shifted, xor_low, xor-four, xor_cancel, xor_double, differ_mul, digit_mul, digit_lt}
use Rattle.field.specs.Field.{poly_mul, reduced, mul_mod}

abbrev pub Additive : (ℕ → ℕ) → Type 0
Additive g = (a b : ℕ) → g (a ⊕ b) ≡ g a ⊕ g b

module _ (g : ℕ → ℕ) (h : Additive g) where
  pub additive_zero : g zero ≡ zero
  additive_zero =
      sym (xor_cancel (g zero) (g zero)) ∙ ap (◌⊕◌ (g zero)) (sym (h zero zero) ∙ ap g (zero_xor zero)) ∙ xor_self (g zero)

  pub additive_digit : {d : ℕ} → Digit d → (v : ℕ) → g (d * v) ≡ d * g v
  additive_digit off v = ap g (zero-mul v) ∙ additive_zero ∙ sym (zero-mul (g v))
  additive_digit on v = ap g (one-mul v) ∙ sym (one-mul (g v))

module _ (m f : ℕ) where
  -- z·a, reduced
  unfoldable pub xtime : ℕ → ℕ
  xtime a = a * 2 ⊕ a * 2 / 2 ^ m % 2 * f

  -- b·v for a polynomial b of k digits
  unfoldable pub horner : ℕ → ℕ → ℕ → ℕ
  horner zero b v = zero
  horner (suc k) b v = b % 2 * v ⊕ xtime (horner k (b / 2) v)

-- the digit at 2^j of a sum, times v
digit_add : (j v : ℕ) → Additive (λ a. a / 2 ^ j % 2 * v)
digit_add j v a b =
    ap (λ (x : ℕ). x * v) (ap (λ (x : ℕ). x % 2) (xor_shr a b j) ∙ xor_low (a / 2 ^ j) (b / 2 ^ j))
    ∙ differ_mul (low (a / 2 ^ j)) (low (b / 2 ^ j)) v

module _ (m f : ℕ) where
  pub xtime_add : Additive (xtime m f)
  unfolding xtime
  xtime_add a b =
      ap (λ (x : ℕ). x ⊕ x / 2 ^ m % 2 * f) (xor_double a b) ∙ ap (◌⊕◌ (a * 2 ⊕ b * 2)) (digit_add m f (a * 2) (b * 2))
      ∙ xor-four _ _ _ _

  -- an additive map that commutes with `xtime` commutes with `horner`
  module _ (g : ℕ → ℕ) (h : Additive g) (x : (v : ℕ) → g (xtime m f v) ≡ xtime m f (g v)) where
    through : (k b v : ℕ) → g (horner m f k b v) ≡ horner m f k b (g v)
    unfolding horner
    through zero b v = additive_zero g h
    through (suc k) b v =
        h _ _ ∙ ap₂ ◌⊕◌ (additive_digit g h (low b) v) (x _ ∙ ap (xtime m f) (through k (b / 2) v))

  pub horner_add : (k b : ℕ) → Additive (horner m f k b)
  unfolding horner
  horner_add zero b v w = sym (zero_xor zero)
  horner_add (suc k) b v w =
      ap₂ ◌⊕◌ (digit_mul (low b) v w) (ap (xtime m f) (horner_add k (b / 2) v w) ∙ xtime_add _ _) ∙ xor-four _ _ _ _

  pub horner_comm : (j b k c v : ℕ) → horner m f j b (horner m f k c v) ≡ horner m f k c (horner m f j b v)
  horner_comm j b k c v =
      through (horner m f j b) (horner_add j b) (λ v. sym (through (xtime m f) xtime_add (λ v. refl) j b v)) k c v

  pub add_horner : (k v : ℕ) → Additive (λ b. horner m f k b v)
  unfolding horner
  add_horner zero v b c = sym (zero_xor zero)
  add_horner (suc k) v b c =
      ap₂ ◌⊕◌ (ap (λ (x : ℕ). x * v) (xor_low b c) ∙ differ_mul (low b) (low c) v)
      (ap (xtime m f) (ap (λ (x : ℕ). horner m f k x v) (xor_shr b c 1) ∙ add_horner k v (b / 2) (c / 2)) ∙ xtime_add _ _)
      ∙ xor-four _ _ _ _

  -- below 2^(m - 1) there is nothing to reduce
  xtime_small : (a : ℕ) → a * 2 < 2 ^ m → xtime m f a ≡ a * 2
  unfolding xtime
  xtime_small a h = ap (λ (x : ℕ). a * 2 ⊕ x % 2 * f) (div-eq_of_lt h) ∙ simp (zero-mul, xor-zero)

  -- times 1 it is the k low digits
  pub horner_one : (k a : ℕ) → k ≤ m → horner m f k a 1 ≡ a % 2 ^ k
  unfolding horner
  horner_one zero a h = sym (mod-one a)
  horner_one (suc k) a h =
      ap₂ ◌⊕◌ (mul-one (a % 2)) (ap (xtime m f) (horner_one k (a / 2) (omega arith)) ∙ xtime_small (a / 2 % 2 ^ k) r_lt)
      ∙ xor_comm (a % 2) _ ∙ xor_shifted (a / 2 % 2 ^ k) 1 (a % 2) (mod-lt a (zero-lt-suc 1))
      ∙ sym (ap (λ (x : ℕ). a % x) (pow-suc 2 k) ∙ mod-mul a (pow_pos k) (zero-lt-suc 1))
    where
      r_lt : a / 2 % 2 ^ k * 2 < 2 ^ m
      r_lt = omega (arith, mod-lt (a / 2) (pow_pos k), pow-suc 2 k, pow_mono h)

-- a shifted, and the product shifted
poly_mul_double : (k a b : ℕ) → poly_mul k (a * 2) b ≡ poly_mul k a b * 2
unfolding poly_mul
poly_mul_double zero a b = refl
poly_mul_double (suc k) a b =
    ap₂ ◌⊕◌ (sym (mul_assoc (b % 2) a 2)) (poly_mul_double k (a * 2) (b / 2))
    ∙ sym (xor_double (b % 2 * a) (poly_mul k (a * 2) (b / 2)))

module _ (m f : ℕ) where
  reduced-add : (k : ℕ) → Additive (reduced m f k)
  unfolding reduced
  reduced-add zero a b = refl
  reduced-add (suc k) a b =
      ap (reduced m f k) (ap (◌⊕◌ (a ⊕ b)) (digit_add (m + k) (f * 2 ^ k) a b) ∙ xor-four _ _ _ _) ∙ reduced-add k _ _

  -- what has m digits is reduced
  reduced_small : (k : ℕ) {c : ℕ} → c < 2 ^ m → reduced m f k c ≡ c
  unfolding reduced
  reduced_small zero h = refl
  reduced_small (suc k) {c} h =
      ap (reduced m f k) (ap (λ (x : ℕ). c ⊕ x % 2 * (f * 2 ^ k)) (div-eq_of_lt wide) ∙ simp (zero-mul, xor-zero))
      ∙ reduced_small k h
    where
      wide : c < 2 ^ (m + k)
      wide = omega (arith, pow_mono {i = m} {j = m + k} (omega arith))

  -- one digit more is one step of z
  reduced_double : (k c : ℕ) → reduced m f (suc k) (c * 2) ≡ xtime m f (reduced m f k c)
  unfolding reduced xtime
  reduced_double zero c = simp (add-zero, mul-one)
  reduced_double (suc k) c = ap (reduced m f (suc k)) same ∙ reduced_double k _
    where
      digit : c * 2 / 2 ^ (m + suc k) ≡ c / 2 ^ (m + k)
      digit =
          ap (λ (x : ℕ). c * 2 / x) (ap (◌^◌ 2) (add-suc m k) ∙ pow-suc 2 (m + k))
          ∙ mul-div-mul_right c (2 ^ (m + k)) (zero-lt-suc 1)

      same : c * 2 ⊕ c * 2 / 2 ^ (m + suc k) % 2 * (f * 2 ^ suc k) ≡ (c ⊕ c / 2 ^ (m + k) % 2 * (f * 2 ^ k)) * 2
      same =
          ap (◌⊕◌ (c * 2))
          (ap₂ (λ (x y : ℕ). x % 2 * (f * y)) digit (pow-suc 2 k) ∙ ap (◌*◌ (c / 2 ^ (m + k) % 2)) (sym (mul_assoc f (2 ^ k) 2))
          ∙ sym (mul_assoc (c / 2 ^ (m + k) % 2) (f * 2 ^ k) 2))
          ∙ sym (xor_double c _)

  reduced_horner : (k b : ℕ) {a : ℕ} → a < 2 ^ m → reduced m f k (poly_mul k a b) ≡ horner m f k b a
  unfolding poly_mul horner
  reduced_horner zero b h = reduced_small zero (pow_pos m)
  reduced_horner (suc k) b {a} h =
      reduced-add (suc k) _ _
      ∙ ap₂ ◌⊕◌ (reduced_small (suc k) (digit_lt (low b) h))
      (ap (reduced m f (suc k)) (poly_mul_double k a (b / 2)) ∙ reduced_double k _
      ∙ ap (xtime m f) (reduced_horner k (b / 2) h))

  pub mul_mod_horner : (a b : ℕ) → mul_mod m f a b ≡ horner m f m b (a % 2 ^ m)
  unfolding mul_mod
  mul_mod_horner a b = reduced_horner m b (mod-lt a (pow_pos m))

  horner_none : (k v : ℕ) → horner m f k 0 v ≡ 0
  unfolding horner
  horner_none zero v = refl
  horner_none (suc k) v =
      ap₂ ◌⊕◌ (zero-mul v) (ap (xtime m f) (horner_none k v) ∙ additive_zero (xtime m f) (xtime_add m f)) ∙ zero_xor zero

  -- digits above those of b count as 0
  pub horner_pad : (i j b v : ℕ) → b < 2 ^ i → horner m f (i + j) b v ≡ horner m f i b v
  unfolding horner
  horner_pad zero j b v h =
      let z : b ≡ 0 = omega (arith, h) in
      ap₂ (λ (n x : ℕ). horner m f n x v) (zero-add j) z ∙ horner_none j v
  horner_pad (suc i) j b v h =
      ap (λ (n : ℕ). horner m f n b v) (suc-add i j)
      ∙ ap (λ (x : ℕ). b % 2 * v ⊕ xtime m f x) (horner_pad i j (b / 2) v (omega (arith, h, pow-suc 2 i)))

  -- n steps from the highest digit down: none yet, one more, all
  module _ (n a b : ℕ) where
    pub first : 0 ≡ horner m f (n - n) (b / 2 ^ n) a
    unfolding horner
    first = sym (ap (λ (x : ℕ). horner m f x (b / 2 ^ n) a) (sub_self n))

    pub turn : (k r : ℕ) → 0 < k → k ≤ n → r ≡ horner m f (n - k) (b / 2 ^ k) a
        → xtime m f r ⊕ b / 2 ^ (k - 1) % 2 * a ≡ horner m f (n - (k - 1)) (b / 2 ^ (k - 1)) a
    unfolding horner
    turn k r p l e =
        let j : k ≡ k - 1 + 1 = omega arith in
        let q : suc (n - k) ≡ n - (k - 1) = omega arith in
        xor_comm (xtime m f r) _
        ∙ ap (λ (x : ℕ). b / 2 ^ (k - 1) % 2 * a ⊕ xtime m f x)
        (e ∙ ap (λ (x : ℕ). horner m f (n - k) x a) (ap (λ (x : ℕ). b / 2 ^ x) j ∙ sym (shr-shr b (k - 1) 1)))
        ∙ ap (λ (x : ℕ). horner m f x (b / 2 ^ (k - 1)) a) q

    pub last : (k r : ℕ) → k ≤ 0 → m ≤ n → b < 2 ^ m → r ≡ horner m f (n - k) (b / 2 ^ k) a → r ≡ horner m f m b a
    last k r l w h e =
        let z : k ≡ 0 = omega arith in
        let s : n ≡ m + (n - m) = omega arith in
        e ∙ ap (λ (x : ℕ). horner m f (n - x) (b / 2 ^ x) a) z ∙ ap₂ (λ (x y : ℕ). horner m f x y a) (sub-zero n) (div-one b)
        ∙ ap (λ (x : ℕ). horner m f x b a) s ∙ horner_pad m (n - m) b a h
