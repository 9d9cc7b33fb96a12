-- The powers by which an inverse is worked out: from a^2 on, times a and squared. Assumes nothing.
use mathlib.Core.Path.{◌≡◌, sym, ap, ◌∙◌, fun_ext}
use mathlib.Core.List.{List, map, map-map}
use Prim.Native.Nat.{ℕ, suc, ◌+◌, ◌-◌, ◌^◌, ◌<◌}
use native.Mathlib.Nat.{pow-suc}
use native.Mathlib.Omega.{arith}
use lib.ListN.{length, take}
use lib.Pow.{pow-lt}
use Rattle.field.specs.Field.{mul, power, inv}
use Rattle.field.specs.Poly.{horner_each}
use Rattle.field.proofs.Table.{Width}
use Rattle.field.proofs.Laws.{mul_low, one_mul-low, power_zero, power-suc, power-add, inv-power}
use Rattle.field.proofs.Places.{horner_self, horner_list}

-- a^(2^k - 2)
abbrev pub even_power : ℕ → ℕ → ℕ → ℕ
even_power m k a = power m a (2 ^ k - 2)

module _ (m : ℕ) (w : Width m) (a : ℕ) where
  pub square_power : mul m a a ≡ even_power m 2 a
  square_power =
      sym (power-suc m a 1 ∙ ap (λ (x : ℕ). mul m x a) (power-suc m a 0 ∙ ap (λ (x : ℕ). mul m x a) (power_zero m a) ∙ one_mul-low m w a) ∙ mul_low m a a)

  -- times a, then squared
  pub power-turn : (k : ℕ) → 0 < k → mul m (mul m (even_power m k a) a) (mul m (even_power m k a) a) ≡ even_power m (k + 1) a
  power-turn k p =
      let n : suc k ≡ k + 1 = omega arith in
      let e : suc (2 ^ k - 2) + suc (2 ^ k - 2) ≡ 2 ^ (k + 1) - 2 = omega (arith, pow-suc 2 k, ap (◌^◌ 2) n, pow-lt p) in
      ap (λ (x : ℕ). mul m x x) (sym (power-suc m a (2 ^ k - 2)))
      ∙ sym (power-add m w a (suc (2 ^ k - 2)) (suc (2 ^ k - 2)))
      ∙ ap (power m a) e

  pub power-last : {k : ℕ} → k ≡ m → even_power m k a ≡ inv m a
  power-last e = ap (λ (x : ℕ). even_power m x a) e ∙ sym (inv-power m w a)

-- the same at each place of a list s; t starts with s
module _ (m : ℕ) (w : Width m) (s : List ℕ) where
  pub squares_powers : horner_each m 0 s s ≡ map (even_power m 2) s
  squares_powers = horner_self m w s ∙ ap (λ f. map f s) (fun_ext (square_power m w))

  pub powers_turn : (k : ℕ) → 0 < k → (t : List ℕ) → take (length s) t ≡ s → {v : List ℕ} → v ≡ horner_each m 0 (map (even_power m k) s) t
      → horner_each m 0 v v ≡ map (even_power m (k + 1)) s
  powers_turn k p t e {v} h =
      horner_self m w v ∙ ap (map (λ x. mul m x x)) (h ∙ horner_list m w (even_power m k) s t e)
      ∙ map-map (λ x. mul m x x) (λ a. mul m (even_power m k a) a) s
      ∙ ap (λ f. map f s) (fun_ext (λ a. power-turn m w a k p))

  pub powers_last : {k : ℕ} → k ≡ m → map (even_power m k) s ≡ map (inv m) s
  powers_last e = ap (λ f. map f s) (fun_ext (λ a. power-last m w a e))
