-- The layers from the last to the first. Assumes nothing.
use mathlib.Core.Path.{◌≡◌, refl, sym, ap, ◌∙◌}
use mathlib.Core.List.{List, [], ◌∷◌, map}
use Prim.Native.Nat.{ℕ, suc, ◌+◌, ◌-◌, ◌*◌, ◌%◌, ◌^◌, ◌≤◌, ◌<◌, min}
use native.Mathlib.Nat.{mul-le-mul_right}
use native.Mathlib.Omega.{arith}
use lib.Pow.{pow_mono, shl_exact}
use Rattle.bits.proofs.Lists.{cons_eq}
use Rattle.network.specs.Network.{exchange, sent}

module _ (m : ℕ) (b : ℕ → ℕ → ℕ) where
  one_less : (l : ℕ) (p : List ℕ)
      → map (sent m b l) (map (exchange (2 ^ min l (2 * m - l)) (b l)) p) ≡ map (sent m b (suc l)) p
  unfolding sent
  one_less l [] = refl
  one_less l (x ∷ p) = cons_eq refl (one_less l p)

  -- layer l - 1 is passed
  pub next_left : (l : ℕ) → 0 < l → (p : List ℕ)
      → map (sent m b (l - 1)) (map (exchange (2 ^ min (l - 1) (2 * m - (l - 1))) (b (l - 1))) p) ≡ map (sent m b l) p
  next_left l h p = one_less (l - 1) p ∙ ap (λ (i : ℕ). map (sent m b i) p) (let e : suc (l - 1) ≡ l = omega arith in e)

  unmoved : (p : List ℕ) → p ≡ map (sent m b 0) p
  unfolding sent
  unmoved [] = refl
  unmoved (x ∷ p) = cons_eq refl (unmoved p)

  -- none is left
  pub none_left : {l : ℕ} → l ≡ 0 → (p : List ℕ) → p ≡ map (sent m b l) p
  none_left e p = unmoved p ∙ ap (λ (l : ℕ). map (sent m b l) p) (sym e)

-- the first bit of layer l, by a shift
module _ (m l : ℕ) (a : m < 16) (h : l < 2 * m + 1) where
  pub base_shifted : l * 2 ^ m % 2 ^ 64 ≡ l * 2 ^ m
  base_shifted = shl_exact 5 m 64 (let e : l < 32 = omega arith in e) (omega arith)

  pub base_small : l * 2 ^ m % 2 ^ 64 < 2 ^ 32
  base_small =
      let p = pow_mono {i = m} {j = 15} (omega arith) in
      let q : l ≤ 31 = omega arith in
      let r = mul-le-mul_right (2 ^ m) q in
      omega (arith, base_shifted)
