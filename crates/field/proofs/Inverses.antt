-- One computed test on the m powers 2^i, for a width m and a modulus f: squaring m times fixes each, and a list of numbers,
-- as an additive map, takes e² + e to e but for its lowest digit. Then e² = e only for 0 and 1. Assumes nothing.
use mathlib.Core.Path.{◌≡◌, refl, sym, ap, ap₂, ◌∙◌, subst}
use mathlib.Core.Bool.{Bool, true, ◌&&◌}
use mathlib.Core.List.{List, [], ◌∷◌}
use Prim.Native.Nat.{ℕ, zero, suc, ◌*◌, ◌/◌, ◌%◌, ◌^◌, ◌<◌}
use native.Mathlib.Nat.{mod-lt, div-lt_iff_lt-mul, le_refl, pow-suc}
use native.Mathlib.Omega.{arith}
use lib.Dec.{eqb}
use borrow.Author.Tests.{eqb-true}
use lib.Arith.{lt-one}
use lib.Pow.{pow_pos, split}
use Rattle.bits.specs.Xor.{◌⊕◌}
use Rattle.bits.specs.Bits.{from, every}
use Rattle.bits.proofs.Lists.{and_left, and_right, every_below_at}
use Rattle.bits.proofs.Xor.{Digit, off, on, digit, low, xor_self, zero_xor, xor_shr, xor_shifted, xor_low, xor_mod, xor_assoc, xor-four, xor_cancel, xor_eq, differ_mul}
use Rattle.field.specs.Field.{mul_mod}
use Rattle.field.proofs.Horner.{Additive, additive_zero, additive_digit}
use Rattle.field.proofs.Modular.{mul_mod_comm, mul_mod-add, add-mul_mod, mul_mod-zero}

-- additive maps that agree on the powers of two agree
module _ (g h : ℕ → ℕ) (ga : Additive g) (ha : Additive h) where
  agree : (k : ℕ) → ((i : ℕ) → i < k → g (2 ^ i) ≡ h (2 ^ i)) → (a : ℕ) → a < 2 ^ k → g a ≡ h a
  agree zero e a l = ap g (lt-one l) ∙ additive_zero g ga ∙ sym (additive_zero h ha) ∙ ap h (sym (lt-one l))
  agree (suc k) e a l =
      ap g parts ∙ ga _ _ ∙ ap₂ ◌⊕◌ high (agree k (λ i l. e i (omega arith)) (a % 2 ^ k) (mod-lt a (pow_pos k)))
      ∙ sym (ap h parts ∙ ha _ _)
    where
      d : Digit (a / 2 ^ k)
      d = digit ((div-lt_iff_lt-mul (pow_pos k)).1 (omega (arith, pow-suc 2 k)))

      parts : a ≡ a / 2 ^ k * 2 ^ k ⊕ a % 2 ^ k
      parts = sym (xor_shifted (a / 2 ^ k) k (a % 2 ^ k) (mod-lt a (pow_pos k)) ∙ split a k)

      high : g (a / 2 ^ k * 2 ^ k) ≡ h (a / 2 ^ k * 2 ^ k)
      high =
          additive_digit g ga d (2 ^ k) ∙ ap (◌*◌ (a / 2 ^ k)) (e k (le_refl (suc k))) ∙ sym (additive_digit h ha d (2 ^ k))

-- the additive map that takes 2^i to the list's entry i
unfoldable pub combine : List ℕ → ℕ → ℕ
combine [] a = zero
combine (x ∷ xs) a = a % 2 * x ⊕ combine xs (a / 2)

combine_add : (xs : List ℕ) → Additive (combine xs)
unfolding combine
combine_add [] a b = sym (zero_xor zero)
combine_add (x ∷ xs) a b =
    ap₂ ◌⊕◌ (ap (λ (d : ℕ). d * x) (xor_low a b) ∙ differ_mul (low a) (low b) x)
    (ap (combine xs) (xor_shr a b 1) ∙ combine_add xs (a / 2) (b / 2))
    ∙ xor-four _ _ _ _

module _ (m f : ℕ) where
  unfoldable pub square : ℕ → ℕ
  square a = mul_mod m f a a

  -- a squared k times
  unfoldable pub frobenius : ℕ → ℕ → ℕ
  frobenius zero a = a
  frobenius (suc k) a = square (frobenius k a)

module _ (m f : ℕ) where
  pub square_add : Additive (square m f)
  unfolding square
  square_add a b =
      add-mul_mod m f (a ⊕ b) a b
      ∙ ap₂ ◌⊕◌ (mul_mod-add m f a a b) (mul_mod-add m f b a b ∙ ap (λ (x : ℕ). x ⊕ mul_mod m f b b) (mul_mod_comm m f b a))
      ∙ simp (xor_assoc, xor_cancel)

  frobenius_add : (k : ℕ) → Additive (frobenius m f k)
  unfolding frobenius
  frobenius_add zero a b = refl
  frobenius_add (suc k) a b = ap (square m f) (frobenius_add k a b) ∙ square_add _ _

-- m squares fix 2^i
unfoldable pub fixes : ℕ → ℕ → ℕ → Bool
fixes m f i = eqb (frobenius m f m (2 ^ i)) (2 ^ i)

-- the list c takes e² + e to e but for its lowest digit, where e is 2^i
unfoldable pub returns : ℕ → ℕ → List ℕ → ℕ → Bool
returns m f c i = eqb (combine c (square m f (2 ^ i) ⊕ 2 ^ i)) (2 ^ i ⊕ 2 ^ i % 2)

unfoldable pub test : ℕ → ℕ → List ℕ → Bool
test m f c = every (λ i. fixes m f i && returns m f c i) (from 0 m)

module _ (m f : ℕ) (c : List ℕ) (t : test m f c ≡ true) where
  passed : (i : ℕ) → i < m → fixes m f i && returns m f c i ≡ true
  unfolding test
  passed = every_below_at (λ i. fixes m f i && returns m f c i) m t

  fixed : (i : ℕ) → i < m → frobenius m f m (2 ^ i) ≡ 2 ^ i
  unfolding fixes
  fixed i h = eqb-true _ _ (and_left (fixes m f i) (returns m f c i) (passed i h))

  returned : (i : ℕ) → i < m → combine c (square m f (2 ^ i) ⊕ 2 ^ i) ≡ 2 ^ i ⊕ 2 ^ i % 2
  unfolding returns
  returned i h = eqb-true _ _ (and_right (fixes m f i) (returns m f c i) (passed i h))

  pub fermat : (a : ℕ) → a < 2 ^ m → frobenius m f m a ≡ a
  fermat = agree (frobenius m f m) (λ a. a) (frobenius_add m f m) (λ a b. refl) m fixed

  back : (a : ℕ) → a < 2 ^ m → combine c (square m f a ⊕ a) ≡ a ⊕ a % 2
  back =
      agree (λ a. combine c (square m f a ⊕ a)) (λ a. a ⊕ a % 2)
      (λ a b. ap (combine c) (ap (λ (x : ℕ). x ⊕ (a ⊕ b)) (square_add m f a b) ∙ xor-four _ _ _ _) ∙ combine_add c _ _)
      (λ a b. ap (◌⊕◌ (a ⊕ b)) (xor_mod a b 1) ∙ xor-four _ _ _ _) m returned

  idempotent : (e : ℕ) → e < 2 ^ m → mul_mod m f e e ≡ e → Digit e
  unfolding square
  idempotent e h s =
      subst Digit
      (sym (xor_eq e (e % 2)
      (sym (back e h) ∙ ap (combine c) (ap (λ (x : ℕ). x ⊕ e) s ∙ xor_self e) ∙ additive_zero (combine c) (combine_add c))))
      (low e)

  -- e² = e and e·a = a, where a is not 0, leave 1
  pub unit : (e a : ℕ) → e < 2 ^ m → mul_mod m f e e ≡ e → mul_mod m f e a ≡ a → 0 < a → e ≡ 1
  unit e a h s q p = one (idempotent e h s) q
    where
      one : {e : ℕ} → Digit e → mul_mod m f e a ≡ a → e ≡ 1
      one off q = absurd (omega (arith, sym (mul_mod_comm m f 0 a ∙ mul_mod-zero m f a) ∙ q))
      one on q = refl
