-- Control bits are binary digits, and as many as the switches. Assumes nothing.
use mathlib.Core.Path.{◌≡◌}
use mathlib.Core.List.{List}
use Prim.Native.Nat.{ℕ, zero, suc, ◌+◌, ◌-◌, ◌*◌, ◌/◌, ◌%◌, ◌^◌, ◌≤◌, ◌<◌}
use native.Mathlib.Nat.{mod-lt, zero-lt-suc, mul-le-mul_right}
use native.Mathlib.Decide.{dec_lt}
use native.Mathlib.Omega.{arith}
use Rattle.bits.specs.Bits.{Row}
use Rattle.bits.proofs.Xor as xor
use Rattle.bits.proofs.Pack.{row_map}
use Rattle.network.specs.Network.{first, last, middle, middle⁻, part, bits, control_bit, switches, control_bits}

pub bits-lt : (m : ℕ) (π ρ : ℕ → ℕ) (l j : ℕ) → bits m π ρ l j < 2
unfolding bits first last
bits-lt zero π ρ l j = mod-lt _ (zero-lt-suc 1)
bits-lt (suc m) π ρ zero j = mod-lt _ (zero-lt-suc 1)
bits-lt (suc m) π ρ (suc l) j = go (dec_lt l (2 * m + 1)) (bits-lt m _ _ l (j / 2))
  where
    inside : ℕ
    inside = bits m (part (j % 2) (middle (2 ^ suc (suc m)) π ρ)) (part (j % 2) (middle⁻ (2 ^ suc (suc m)) π ρ)) l (j / 2)

    go : (d : Dec (l < 2 * m + 1)) → inside < 2 → elim d as (λ _. ℕ) [ yes _ ↦ inside | no _ ↦ last (2 ^ suc (suc m)) π ρ j ] < 2
    go (yes _) h = h
    go (no _) h = mod-lt _ (zero-lt-suc 1)

pub control_lt : (m : ℕ) (s : List ℕ) (i : ℕ) → control_bit m s i < 2
unfolding control_bit
control_lt m s i = bits-lt m _ _ _ _

pub row_control : (m : ℕ) (s : List ℕ) → Row (switches m) (control_bits m s)
unfolding control_bits
row_control m s = row_map (control_bit (m - 1) s) (λ i. xor.digit (control_lt (m - 1) s i)) 0 (switches m)

-- switch j of layer l is one of the switches
pub switch_lt : (m l j : ℕ) → 0 < m → l < 2 * (m - 1) + 1 → j < 2 ^ (m - 1) → l * 2 ^ (m - 1) + j < switches m
unfolding switches
switch_lt m l j p a b =
    let e : 2 * m - 1 ≡ 2 * (m - 1) + 1 = omega arith in
    let c : suc l ≤ 2 * m - 1 = omega arith in
    omega (arith, mul-le-mul_right (2 ^ (m - 1)) c)
