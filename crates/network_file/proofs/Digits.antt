-- Digits in reverse order, step by step, and the bit count. Assumes nothing.
use mathlib.Core.Path.{◌≡◌, refl, sym, ap, ap₂, ◌∙◌}
use mathlib.Core.List.{List, [], ◌∷◌, map}
use Prim.Native.Nat.{ℕ, zero, suc, ◌+◌, ◌-◌, ◌*◌, ◌/◌, ◌%◌, ◌^◌, ◌≤◌, ◌<◌}
use native.Mathlib.Nat.{pow-succ', div-eq_of_lt, mod-lt, mul-le-mul_right}
use native.Mathlib.Numerals.{add-one}
use native.Mathlib.Omega.{arith}
use lib.Pow.{pow_pos, pow_mono, pow-add, split, high, shl_exact}
use Rattle.bits.specs.Bits.{from, bit_at, bytes_for}
use Rattle.bits.proofs.Lists.{cons_eq}
use Rattle.network.specs.Network.{network, switches}
use Rattle.network_key.specs.Files.{reversed, support_of}
use Rattle.network_key.proofs.Reversed.{reversed-lt, reversed_none, reversed-suc}

join : (r d w z : ℕ) → (2 * r + d) * w + z ≡ r * (2 * w) + (d * w + z)
join r d w z = omega arith

pub reversed-start : (k x : ℕ) → 0 * 2 ^ k + reversed k x ≡ reversed k x
reversed-start k x = omega arith

-- r has the i digits that are passed, y those that are left of k
module _ (k i r y : ℕ) where
  pub reversed-next : i < k → (2 * r + y % 2) * 2 ^ (k - (i + 1)) + reversed (k - (i + 1)) (y / 2) ≡ r * 2 ^ (k - i) + reversed (k - i) y
  reversed-next h =
      let l : ℕ = k - (i + 1) in
      let e : suc l ≡ k - i = omega arith in
      join r (y % 2) (2 ^ l) (reversed l (y / 2))
      ∙ ap₂ (λ (w z : ℕ). r * w + z) (sym (pow-succ' 2 l)) (sym (reversed-suc l y))
      ∙ ap (λ (j : ℕ). r * 2 ^ j + reversed j y) e

  pub reversed_end : k ≤ i → r * 2 ^ (k - i) + reversed (k - i) y ≡ r
  reversed_end h =
      let e : k - i ≡ 0 = omega arith in
      ap (λ (j : ℕ). r * 2 ^ j + reversed j y) e ∙ ap (◌+◌ (r * 1)) (reversed_none y) ∙ (let d : r * 1 + 0 ≡ r = omega arith in d)

  pub reversed_small : r < 2 ^ i → 2 * r + y % 2 < 2 ^ (i + 1)
  reversed_small h = let e : 2 ^ (i + 1) ≡ 2 * 2 ^ i = ap (2 ^◌) (add-one i) ∙ pow-succ' 2 i in omega arith

-- the first m of m + d reversed digits
reversed-part : (m d x : ℕ) → reversed (m + d) x / 2 ^ d ≡ reversed m x
reversed-part zero d x =
    ap (λ (k : ℕ). reversed k x / 2 ^ d) (let e : zero + d ≡ d = omega arith in e)
    ∙ div-eq_of_lt (reversed-lt d x)
    ∙ sym (reversed_none x)
reversed-part (suc m) d x =
    let y : ℕ = x / 2 in
    let i : ℕ = m + d in
    let b : ℕ = x % 2 in
    let q : reversed i y / 2 ^ d ≡ reversed m y = reversed-part m d y in
    ap (λ (k : ℕ). reversed k x / 2 ^ d) (let e : suc m + d ≡ suc i = omega arith in e)
    ∙ ap (◌/ 2 ^ d) (reversed-suc i x ∙ ap₂ ◌+◌ (ap (b *◌) (pow-add 2 m d)) (sym (split (reversed i y) d)))
    ∙ ap (◌/ 2 ^ d) (let e : b * (2 ^ m * 2 ^ d) + (reversed i y / 2 ^ d * 2 ^ d + reversed i y % 2 ^ d) ≡ (b * 2 ^ m + reversed i y / 2 ^ d) * 2 ^ d + reversed i y % 2 ^ d = regroup b (2 ^ m) (2 ^ d) (reversed i y / 2 ^ d) (reversed i y % 2 ^ d) in e)
    ∙ high (b * 2 ^ m + reversed i y / 2 ^ d) d (mod-pow d (reversed i y))
    ∙ ap (◌+◌ (b * 2 ^ m)) q
    ∙ sym (reversed-suc m x)
  where
    regroup : (b v w q r : ℕ) → b * (v * w) + (q * w + r) ≡ (b * v + q) * w + r
    regroup b v w q r = omega arith

    mod-pow : (d z : ℕ) → z % 2 ^ d < 2 ^ d
    mod-pow d z = mod-lt z (pow_pos d)

pub reversed-first : (m x r : ℕ) → m < 14 → r ≡ reversed 13 x → r / 2 ^ (13 - m) ≡ reversed m x
reversed-first m x r h e =
    ap (◌/ 2 ^ (13 - m)) (e ∙ ap (λ (k : ℕ). reversed k x) (let q : 13 ≡ m + (13 - m) = omega arith in q))
    ∙ reversed-part m (13 - m) x

-- the support is what the network sends out, reversed
pub support_reversed : (m n : ℕ) (row : List ℕ)
    → map (reversed m) (map (network (m - 1) (λ l j. bit_at row (l * 2 ^ (m - 1) + j))) (from 0 n)) ≡ support_of m n row
unfolding support_of
support_reversed m n row = each (from 0 n)
  where
    each : (p : List ℕ) → map (reversed m) (map (network (m - 1) (λ l j. bit_at row (l * 2 ^ (m - 1) + j))) p)
        ≡ map (λ i. reversed m (network (m - 1) (λ l j. bit_at row (l * 2 ^ (m - 1) + j)) i)) p
    each [] = refl
    each (x ∷ p) = cons_eq refl (each p)

-- the bit count, by a shift
pub switches_shifted : (m : ℕ) → m < 14 → (2 * m - 1) * 2 ^ (m - 1) % 2 ^ 64 ≡ switches m
unfolding switches
switches_shifted m h = shl_exact 5 (m - 1) 64 (let e : 2 * m - 1 < 32 = omega arith in e) (omega arith)

-- its bytes
pub bytes_small : (n : ℕ) {b : ℕ} → b ≡ bytes_for n → n < 2 ^ 64 → b ≤ 2 ^ 61
unfolding bytes_for
bytes_small n e h = omega arith

-- for a file's width
count_small : (m w : ℕ) → m < 14 → w ≤ 4096 → (2 * m - 1) * w ≤ 102400
count_small m w h b =
    let l : 2 * m - 1 ≤ 25 = omega arith in
    let p = mul-le-mul_right w l in omega arith

pub switches_small : (m : ℕ) → m < 14 → bytes_for (switches m) ≤ 12800
unfolding switches bytes_for
switches_small m h =
    let q = pow_mono {i = m - 1} {j = 12} (omega arith) in
    let p = count_small m (2 ^ (m - 1)) h q in omega arith
