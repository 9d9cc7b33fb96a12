-- GF(2^m) as a field of `algebra`: an element is a natural below 2^m. `val` reads the m low digits of any natural, so that sums
-- and products of program values are those of the field without a hypothesis. Assumes nothing.
use mathlib.Core.Path.{◌≡◌, refl, sym, ap, ◌∙◌}
use mathlib.Core.Logic.{◌≢◌}
use Prim.Native.Nat.{ℕ, zero, suc, ◌%◌, ◌^◌, ◌<◌}
use native.Mathlib.Nat.{mod-lt, mod-eq_of_lt}
use native.Mathlib.Fin
use native.Mathlib.Decide.{Fin-discrete}
use native.Mathlib.Omega.{arith}
use lib.Pow.{pow_pos}
use Rattle.bits.specs.Xor.{◌⊕◌}
use Rattle.bits.proofs.Xor.{xor_comm, xor_self, xor_assoc, xor-zero, xor_lt, xor_mod}
use Rattle.algebra.proofs.Ring.{Ring}
use Rattle.algebra.proofs.Field.{Field}
use Rattle.algebra.proofs.Points.{pow}
use Rattle.algebra.proofs.Series.{Series}
use Rattle.algebra.proofs.Poly.{Monic}
use Rattle.algebra.proofs.Goppa.{Separable}
use Rattle.algebra.proofs.Squarefree.{Square, separable_of}
use Rattle.field.specs.Field.{mul, power, inv}
use Rattle.field.proofs.Table.{Width}
use Rattle.field.proofs.Laws.{mul_comm, mul_low, low-mul, mul-add, mul_assoc, mul-lt, one_lt, mul-one, mul-inv, inv-lt, inv-low, power_zero, power-suc, sqrt, sqrt_lt, sqrt_square}

abbrev pub Elem : ℕ → Type 0
Elem m = (n : ℕ) × (n < 2 ^ m)

module _ (m : ℕ) where
  pub elem_eq : {x y : Elem m} → x.0 ≡ y.0 → x ≡ y
  elem_eq e = Fin.val_path e

  unfoldable pub val : ℕ → Elem m
  val n = (n % 2 ^ m, mod-lt n (pow_pos m))

  pub val_of : {n : ℕ} → n < 2 ^ m → (val n).0 ≡ n
  unfolding val
  val_of h = mod-eq_of_lt h

  pub val_elem : (x : Elem m) → val x.0 ≡ x
  val_elem x = elem_eq (val_of x.1)

  pub val_inj : {a b : ℕ} → a < 2 ^ m → b < 2 ^ m → val a ≡ val b → a ≡ b
  val_inj h k e = sym (val_of h) ∙ ap (λ (x : Elem m). x.0) e ∙ val_of k

  unfoldable pub plus : Elem m → Elem m → Elem m
  plus x y = (x.0 ⊕ y.0, xor_lt m x.1 y.1)

  unfoldable pub times : Elem m → Elem m → Elem m
  times x y = (mul m x.0 y.0, mul-lt m x.0 y.0)

  unfoldable pub inverse : Elem m → Elem m
  inverse x = (inv m x.0, inv-lt m x.0)

  unfoldable pub zero_elem : Elem m
  zero_elem = (0, pow_pos m)

  -- the operations on naturals are those on elements
  pub val-zero : val 0 ≡ zero_elem
  unfolding zero_elem
  val-zero = elem_eq (val_of (pow_pos m))

  pub val-xor : (a b : ℕ) → val (a ⊕ b) ≡ plus (val a) (val b)
  unfolding val plus
  val-xor a b = elem_eq (xor_mod a b m)

  pub val-mul : (a b : ℕ) → val (mul m a b) ≡ times (val a) (val b)
  unfolding val times
  val-mul a b = elem_eq (mod-eq_of_lt (mul-lt m a b) ∙ sym (mul_low m a _ ∙ low-mul m a b))

  pub val-inv : (a : ℕ) → val (inv m a) ≡ inverse (val a)
  unfolding val inverse
  val-inv a = elem_eq (mod-eq_of_lt (inv-lt m a) ∙ sym (inv-low m a))

module _ (m : ℕ) (W : Width m) where
  unfoldable pub one_elem : Elem m
  one_elem = (1, one_lt m W)

  pub laws : Ring (zero_elem m) one_elem (plus m) (times m)
  unfolding plus times zero_elem one_elem
  laws = record {
    add_assoc = λ a b c. elem_eq m (xor_assoc _ _ _);
    add_comm = λ a b. elem_eq m (xor_comm _ _);
    add-zero = λ a. elem_eq m (xor-zero _);
    add_self = λ a. elem_eq m (xor_self _);
    mul_assoc = λ a b c. elem_eq m (mul_assoc m _ _ _);
    mul_comm = λ a b. elem_eq m (mul_comm m _ _);
    mul-one = λ a. elem_eq m (mul-one m W a.1);
    mul-add = λ a b c. elem_eq m (mul-add m _ _ _);
  }

  pub one_not_zero : one_elem ≢ zero_elem m
  unfolding one_elem zero_elem
  one_not_zero e = let z : ◌≡◌ {A = ℕ} 1 0 = ap (λ (x : Elem m). x.0) e in omega arith

  pub times_inverse : (a : Elem m) → a ≢ zero_elem m → times m a (inverse m a) ≡ one_elem
  unfolding times inverse one_elem zero_elem
  times_inverse a h = elem_eq m (mul-inv m W a.1 (positive a.0 refl))
    where
      positive : (n : ℕ) → a.0 ≡ n → 0 < a.0
      positive zero e = absurd (h (elem_eq m e))
      positive (suc n) e = omega arith

  -- the instance
  abbrev pub gf : Field
  gf = record {
    F = Elem m;
    eq? = Fin-discrete (2 ^ m);
    𝟘 = zero_elem m;
    𝟙 = one_elem;
    ◌⊕◌ = plus m;
    ◌⊗◌ = times m;
    inv = inverse m;
    𝟙≢𝟘 = one_not_zero;
    laws = laws;
    ⊗-inv = times_inverse;
  }

  pub val_one : val m 1 ≡ one_elem
  unfolding one_elem
  val_one = elem_eq m (val_of m (one_lt m W))

  pub val-power : (a k : ℕ) → val m (power m a k) ≡ pow laws (val m a) k
  unfolding pow
  val-power a zero = ap (val m) (power_zero m a) ∙ val_one
  val-power a (suc k) =
      ap (val m) (power-suc m a k ∙ mul_comm m (power m a k) a) ∙ val-mul m a (power m a k) ∙ ap (times m (val m a)) (val-power a k)

  -- every element is a square, so the square-free criterion holds
  unfoldable pub root : Elem m → Elem m
  root x = (sqrt m x.0, sqrt_lt m W x.0)

  pub root_times : (x : Elem m) → times m (root x) (root x) ≡ x
  unfolding root times
  root_times x = elem_eq m (sqrt_square m W x.1)

  pub gf_separable : (t : ℕ) (g : Series (Elem m)) → Monic laws t g → ¬ Square gf g → Separable laws t g
  gf_separable = separable_of gf root root_times
