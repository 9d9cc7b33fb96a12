-- The product modulo f, for f of degree m, as the code works it out. Assumes nothing.
use mathlib.Core.Path.{◌≡◌, sym, ap, ◌∙◌}
use Prim.Native.Nat.{ℕ, ◌/◌, ◌%◌, ◌^◌, ◌≤◌, ◌<◌}
use native.Mathlib.Nat.{le-div_iff_mul-le, div-lt_iff_lt-mul, div-eq_of_lt-le, pow-suc}
use native.Mathlib.Omega.{arith}
use borrow.Author.Tests.{lt-ltb, le-ltb, eq-eqb, ne_eqb}
use lib.Pow.{pow_pos}
use Rattle.field.specs.Field.{modulus_of, mul_mod, product_by, mul}
use Rattle.field.proofs.Modular.{Modulus, mul_mod_comm, mul_mod-low}
use Rattle.field.proofs.Table.{Width, width_modulus, width_narrow}
use Rattle.field.proofs.Laws.{mul_at}

module _ (m f : ℕ) where
  -- the code's test of the degree
  pub degree_modulus : f / 2 ^ m ≡ 1 → Modulus m f
  degree_modulus e =
      record {
        lo = omega (arith, (le-div_iff_mul-le {k = 2 ^ m} {x = 1} {y = f} (pow_pos m)).0 (omega arith));
        hi = omega (arith, pow-suc 2 m, (div-lt_iff_lt-mul {k = 2 ^ m} {x = f} {y = 2} (pow_pos m)).0 (omega arith));
      }

  modulus_degree : Modulus m f → f / 2 ^ m ≡ 1
  modulus_degree M = div-eq_of_lt-le (2 ^ m) (omega (arith, M.lo)) (omega (arith, M.hi, pow-suc 2 m))

  module _ (a b : ℕ) where
    low_both : mul_mod m f (a % 2 ^ m) (b % 2 ^ m) ≡ mul_mod m f a b
    low_both =
        mul_mod-low m f a (b % 2 ^ m) ∙ mul_mod_comm m f a (b % 2 ^ m) ∙ mul_mod-low m f b a ∙ mul_mod_comm m f b a

    pub product_wide : 14 ≤ m → product_by m f a b ≡ 0
    unfolding product_by
    product_wide h = rw (le-ltb m 14 h)

    pub product_other : m < 14 → (f / 2 ^ m ≡ 1 → ⊥) → product_by m f a b ≡ 0
    unfolding product_by
    product_other h n = rw (lt-ltb m 14 h, ne_eqb (f / 2 ^ m) 1 n)

    product_degree : m < 14 → f / 2 ^ m ≡ 1 → product_by m f a b ≡ mul_mod m f a b
    unfolding product_by
    product_degree h e = rw (lt-ltb m 14 h, eq-eqb (f / 2 ^ m) 1 e)

    pub product-low : m < 14 → f / 2 ^ m ≡ 1 → mul_mod m f (a % 2 ^ m) (b % 2 ^ m) ≡ product_by m f a b
    product-low h e = low_both ∙ sym (product_degree h e)

    -- in the field
    module _ (w : Width m) (e : f ≡ modulus_of m) where
      pub mul-low_both : mul_mod m f (a % 2 ^ m) (b % 2 ^ m) ≡ mul m a b
      mul-low_both = low_both ∙ ap (λ (g : ℕ). mul_mod m g a b) e ∙ sym (mul_at m w a b)

      pub product_field : product_by m f a b ≡ mul m a b
      product_field =
          let M : Modulus m f = rw e (width_modulus m w) in
          product_degree (width_narrow m w) (modulus_degree M) ∙ ap (λ (g : ℕ). mul_mod m g a b) e ∙ sym (mul_at m w a b)
