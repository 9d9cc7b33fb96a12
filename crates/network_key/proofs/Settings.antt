-- A network with the control bits of a key's permutation sends out the key's support. Assumes nothing.
use mathlib.Core.Path.{◌≡◌, sym, ap, ap₂, ◌∙◌, subst}
use mathlib.Core.List.{List, map}
use Prim.Native.Nat.{ℕ, suc, ◌+◌, ◌-◌, ◌*◌, ◌^◌, ◌<◌}
use native.Mathlib.Nat.{zero-add}
use native.Mathlib.Decide.{dec_lt}
use native.Mathlib.Omega.{arith}
use lib.ListN.{length, get_or, length-map, get_or-map, get_or-append}
use lib.Pow.{high, low}
use lib.Seq.{ext_get_or}
use Rattle.bits.specs.Bits.{bit_at, pack}
use Rattle.bits.proofs.Lists.{length-map-from, map-from-at}
use Rattle.bits.proofs.Pack.{bit_pack}
use Rattle.field.proofs.Table.{width_pos}
use Rattle.key.specs.Keys.{Key}
use Rattle.key.proofs.Accepted.{Accepted}
use Rattle.network.specs.Network.{network, bits, val, seek, unused, control_bit, switches, control_bits}
use Rattle.network.specs.Tables.{at, Each}
use Rattle.network.proofs.Lists.{get_d_any}
use Rattle.network.proofs.There.{sends}
use Rattle.network.proofs.Digits.{row_control, switch_lt}
use Rattle.network.proofs.Complete.{completed}
use Rattle.network_key.specs.Files.{reversed, support_of, permutation}
use Rattle.network_key.proofs.Reversed.{reversed-lt, reversed_back, reversed_injective}

module _ (m : ℕ) (pos : 0 < m) (s : List ℕ) where
  -- the packed control bits, read back
  settings : (l j : ℕ) → l < 2 * (m - 1) + 1 → j < 2 ^ (m - 1)
      → bit_at (pack (control_bits m s)) (l * 2 ^ (m - 1) + j) ≡ bits (m - 1) (val s) (seek (val s) (2 ^ suc (m - 1))) l j
  unfolding control_bits control_bit
  settings l j a b =
      let i : ℕ = l * 2 ^ (m - 1) + j in
      bit_pack (row_control m s) i
      ∙ map-from-at (control_bit (m - 1) s) 0 (switches m) i 0 (switch_lt m l j pos a b)
      ∙ ap (control_bit (m - 1) s) (zero-add i)
      ∙ ap₂ (bits (m - 1) (val s) (seek (val s) (2 ^ suc (m - 1)))) (high l (m - 1) b) (low l (m - 1) b)

  pub sends_list : Each (2 ^ m) s → (x : ℕ) → x < 2 ^ m
      → network (m - 1) (λ l j. bit_at (pack (control_bits m s)) (l * 2 ^ (m - 1) + j)) x ≡ val s x
  sends_list each x h =
      let e : m ≡ suc (m - 1) = omega arith in
      sends (m - 1) s _ (subst (λ i. Each (2 ^ i) s) e each) settings x (subst (λ i. x < 2 ^ i) e h)

pub length-support_of : (m n : ℕ) (row : List ℕ) → length (support_of m n row) ≡ n
unfolding support_of
length-support_of m n row = length-map-from _ 0 n

module _ (k : Key) (a : Accepted k) where
  abbrev m : ℕ
  m = k.m

  abbrev values : List ℕ
  values = map (reversed m) k.support

  size : length values ≡ k.n
  size = length-map k.support (reversed m) ∙ a.support_length

  values_at_lem : (i : ℕ) → i < k.n → at values i ≡ reversed m (get_or k.support i 0)
  values_at_lem i h =
      get_d_any values i 0 (reversed m 0) (omega (arith, size)) ∙ get_or-map (reversed m) k.support i 0

  below : (x : ℕ) → x < length values → at values x < 2 ^ m
  below x h = rw (values_at_lem x (omega (arith, size))) (reversed-lt m _)

  once : (x y : ℕ) → x < length values → y < length values → at values x ≡ at values y → x ≡ y
  once x y h c e = elim (dec_lt x y) [
    | yes l ↦ absurd (a.different x y l (omega (arith, size)) same)
    | no l ↦ elim (dec_lt y x) [ yes g ↦ absurd (a.different y x g (omega (arith, size)) (sym same)) | no g ↦ omega arith ]
  ]
    where
      same : get_or k.support x 0 ≡ get_or k.support y 0
      same =
          reversed_injective m _ _ (a.support_below x) (a.support_below y)
          (sym (values_at_lem x (omega (arith, size))) ∙ e ∙ values_at_lem y (omega (arith, size)))

  pub each_permutation : Each (2 ^ m) (permutation k)
  unfolding permutation
  each_permutation = completed (2 ^ m) values below once

  -- the permutation begins with the support's values
  starts : (i : ℕ) → i < k.n → val (permutation k) i ≡ reversed m (get_or k.support i 0)
  unfolding permutation
  starts i h =
      get_or-append values (unused values (2 ^ m)) i i (omega (arith, size))
      ∙ get_d_any values i i 0 (omega (arith, size)) ∙ values_at_lem i h

  pub support_back : support_of m k.n (pack (control_bits m (permutation k))) ≡ k.support
  unfolding support_of
  support_back =
      ext_get_or 0 _ k.support (length-support_of m k.n row ∙ sym a.support_length)
      (λ i h. let b : i < k.n = rw (length-support_of m k.n row) at h in
      let fits = a.limits.fits in
      map-from-at _ 0 k.n i 0 b
      ∙ ap (λ (x : ℕ). reversed m (network (m - 1) (λ l j. bit_at row (l * 2 ^ (m - 1) + j)) x)) (zero-add i)
      ∙ ap (reversed m) (sends_list m (width_pos m a.width) (permutation k) each_permutation i (omega arith) ∙ starts i b)
      ∙ reversed_back m (get_or k.support i 0) (a.support_below i))
    where
      row : List ℕ
      row = pack (control_bits m (permutation k))
