-- The packed row that the program leaves is that of the control bits of the list. Assumes nothing.
use mathlib.Core.Path.{◌≡◌, sym, ap, ◌∙◌, subst}
use mathlib.Core.List.{List}
use Prim.Native.Nat.{ℕ, suc, ◌+◌, ◌-◌, ◌*◌, ◌/◌, ◌%◌, ◌^◌, ◌≤◌, ◌<◌}
use native.Mathlib.Nat.{zero-add, mul-le-mul_right, pow-le-pow_right, mul_assoc, mod-lt, div-add-mod, div-lt_iff_lt-mul}
use native.Mathlib.Decide.{dec_lt}
use native.Mathlib.Omega.{arith}
use lib.ListN.{length}
use lib.Pow.{pow_pos, pow-add}
use Rattle.bits.specs.Bits.{bytes_for, bit_at, pack}
use Rattle.bits.proofs.Bits.{bit_past, bits_determine}
use Rattle.bits.proofs.Lists.{map-from-at}
use Rattle.bits.proofs.Pack.{row_length, length-pack, bytes_pack, bit_pack}
use Rattle.network.specs.Network.{val, seek, control_bit, switches, control_bits}
use Rattle.network.proofs.Digits.{row_control, switch_lt}
use Rattle.control_passes.specs.Passes.{Done, Fits}

whole : (i w : ℕ) → i ≡ 0 + 1 * (i / w * w + i % w)
whole i w = let e = div-add-mod i w in omega arith

written : (p : ℕ) (s b b' : List ℕ) → Done p 0 1 (val s) (seek (val s) (2 ^ suc p)) b b' → (i : ℕ) → i < (2 * p + 1) * 2 ^ p → bit_at b' i ≡ control_bit p s i
unfolding control_bit
written p s b b' d i h =
    ap (bit_at b') (whole i (2 ^ p))
    ∙ d.put (i / 2 ^ p) (i % 2 ^ p) ((div-lt_iff_lt-mul (pow_pos p)).1 h) (mod-lt i (pow_pos p))

pub few : (m : ℕ) → m < 14 → 2 ^ m ≤ 8192
few m h = pow-le-pow_right {n = 2} (omega arith) {i = m} {j = 13} (omega arith)

pub shifted : (m : ℕ) → m < 14 → 1 * 2 ^ m % 18446744073709551616 ≡ 2 ^ m
shifted m h = let f = few m h in omega arith

module _ (m : ℕ) (wide : 4 ≤ m) (b : List ℕ) (size : length b ≡ bytes_for (switches m)) where
  -- the switches fill whole bytes
  full : 8 * length b ≡ switches m
  unfolding switches bytes_for
  full =
      let e : 2 ^ (m - 1) ≡ 2 ^ (m - 4) * 8 = ap (2 ^◌) (let d : m - 1 ≡ m - 4 + 3 = omega arith in d) ∙ pow-add 2 (m - 4) 3 in
      let f : (2 * m - 1) * 2 ^ (m - 1) ≡ (2 * m - 1) * 2 ^ (m - 4) * 8 = ap ((2 * m - 1) *◌) e ∙ sym (mul_assoc (2 * m - 1) (2 ^ (m - 4)) 8) in
      omega (arith, size)

  pub fits_row : Fits (m - 1) 0 1 b
  fits_row l j h c = let a = switch_lt m l j (omega arith) h c in omega (arith, full)

  pub row_small : m < 14 → length b ≤ 4294967296
  unfolding switches
  row_small h =
      let e : 2 * m - 1 ≤ 27 = omega arith in
      let f = mul-le-mul_right (2 ^ (m - 1)) e in
      omega (arith, full, f, few (m - 1) (omega arith))

  within : (s b₀ : List ℕ) → Done (m - 1) 0 1 (val s) (seek (val s) (2 ^ m)) b₀ b → (i : ℕ) → i < switches m → bit_at b i ≡ control_bit (m - 1) s i
  unfolding switches
  within s b₀ d i h =
      let e : m ≡ suc (m - 1) = omega arith in
      written (m - 1) s b₀ b (subst (λ (k : ℕ). Done (m - 1) 0 1 (val s) (seek (val s) (2 ^ k)) b₀ b) e d) i
      (subst (λ (k : ℕ). i < k * 2 ^ (m - 1)) (let f : 2 * m - 1 ≡ 2 * (m - 1) + 1 = omega arith in f) h)

  pub row_written_lem : (s b₀ : List ℕ) → Done (m - 1) 0 1 (val s) (seek (val s) (2 ^ m)) b₀ b → b ≡ pack (control_bits m s)
  unfolding control_bits
  row_written_lem s b₀ d =
      let r = row_control m s in
      bits_determine b (pack (control_bits m s)) d.bytes (bytes_pack r)
      (size ∙ sym (length-pack (control_bits m s) ∙ ap bytes_for (row_length r)))
      (λ i. elim (dec_lt i (switches m)) [
        | yes h ↦ within s b₀ d i h ∙ sym (bit_pack r i ∙ map-from-at (control_bit (m - 1) s) 0 (switches m) i 0 h ∙ ap (control_bit (m - 1) s) (zero-add i))
        | no h ↦ bit_past b i (omega (arith, full)) ∙ sym (bit_past (pack (control_bits m s)) i (rw (length-pack (control_bits m s), row_length r) (omega (arith, full, size))))
      ])
