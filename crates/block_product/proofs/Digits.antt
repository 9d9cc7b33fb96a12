-- The number of the low digits of a byte. Assumes nothing.
use mathlib.Core.Path.{◌≡◌, sym, ap, ap₂, ◌∙◌}
use mathlib.Core.List.{List, map}
use Prim.Native.Nat.{ℕ, zero, suc, ◌+◌, ◌-◌, ◌*◌, ◌/◌, ◌%◌, ◌^◌, ◌≤◌, ◌<◌}
use native.Mathlib.Nat.{zero-add, one-mul, pow-succ', mod-lt, mod-one, div-one, mod-add-div, add-mul-mod_self_left, mod-eq_of_lt, mul_assoc, div-div-eq-div-mul}
use native.Mathlib.Omega.{arith}
use lib.Bits.{bit_and, and_mask}
use lib.Pow.{pow_pos, shl_exact}
use lib.ListN.{get_or}
use Rattle.bits.specs.Bits.{from, bit_at, number}
use Rattle.bits.proofs.Lists.{map-from}

-- the mask of c digits
module _ (c : ℕ) (few : c ≤ 8) where
  pub one_shifted : 1 * 2 ^ c % 2 ^ 64 ≡ 2 ^ c
  one_shifted = shl_exact {a = 1} 1 c 64 (omega arith) (omega arith) ∙ one-mul (2 ^ c)

  pub masked : (x : ℕ) → bit_and x (1 * 2 ^ c % 2 ^ 64 - 1) ≡ x % 2 ^ c
  masked x = ap (λ (w : ℕ). bit_and x (w - 1)) one_shifted ∙ and_mask x c

-- x's lowest digit and the others
split-mod : (x y : ℕ) → 0 < y → x % 2 + 2 * (x / 2 % y) ≡ x % (2 * y)
split-mod x y h =
    let a : ℕ = x / 2 in
    let r : ℕ = a % y in
    let l : r < y = mod-lt a h in
    let e : x ≡ x % 2 + 2 * r + 2 * y * (a / y) = omega (arith, mod-add-div a y, mul_assoc 2 y (a / y)) in
    let f : x % 2 + 2 * r < 2 * y = omega arith in
    sym (ap (◌% (2 * y)) e ∙ add-mul-mod_self_left (x % 2 + 2 * r) (2 * y) (a / y) ∙ mod-eq_of_lt f)

digits_number : (c x : ℕ) → number (map (λ i. x / 2 ^ i % 2) (from 0 c)) ≡ x % 2 ^ c
unfolding number from
digits_number zero x = sym (mod-one x)
digits_number (suc c) x =
    ap₂ (λ (d : ℕ) (ds : List ℕ). d + 2 * number ds) (ap (◌% 2) (div-one x))
    (map-from (λ i. x / 2 ^ i % 2) (λ i. x / 2 / 2 ^ i % 2) 1 0 c
    (λ i l.
    let e : 1 + i ≡ suc i = omega arith in
    ap (λ (y : ℕ). x / 2 ^ y % 2) e
    ∙ ap (λ (y : ℕ). x / y % 2) (pow-succ' 2 i)
    ∙ ap (◌% 2) (sym (div-div-eq-div-mul x 2 (2 ^ i)))
    ∙ ap (λ (y : ℕ). x / 2 / 2 ^ y % 2) (sym (zero-add i))))
    ∙ ap (λ (y : ℕ). x % 2 + 2 * y) (digits_number c (x / 2))
    ∙ split-mod x (2 ^ c) (pow_pos c)
    ∙ ap (◌%◌ x) (sym (pow-succ' 2 c))

-- c bits from a byte's first on number its c low digits
pub byte_number : (u : List ℕ) (q c : ℕ) → c ≤ 8 → number (map (bit_at u) (from (8 * q) c)) ≡ get_or u q 0 % 2 ^ c
unfolding bit_at
byte_number u q c h =
    ap number
    (map-from (bit_at u) (λ i. get_or u q 0 / 2 ^ i % 2) (8 * q) 0 c
    (λ i l.
    let a : (8 * q + i) / 8 ≡ q = omega arith in
    let b : (8 * q + i) % 8 ≡ 0 + i = omega arith in
    ap₂ (λ (x y : ℕ). get_or u x 0 / 2 ^ y % 2) a b))
    ∙ digits_number c (get_or u q 0)
