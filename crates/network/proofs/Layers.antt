-- A layer of the network by the digits of a position, from the lowest on. Assumes nothing.
use mathlib.Core.Path.{◌≡◌, sym, ap, ◌∙◌, subst}
use Prim.Native.Nat.{ℕ, zero, suc, ◌+◌, ◌-◌, ◌*◌, ◌/◌, ◌%◌, ◌^◌, ◌≤◌, ◌<◌, min}
use native.Mathlib.Omega.{arith}
use native.Mathlib.Nat.{pow-succ', div-div-eq-div-mul, mod-one, div-one, div-add-mod, mod-lt, div-mul-le_self, mul-le-mul_right, div-le_self, pow-le-pow_right}
use lib.Pow.{pow_pos}
use Rattle.network.specs.Network.{pairs, exchange, sent}

-- positions that differ in digit g only, by recursion on g
unfoldable pub swap : ℕ → (ℕ → ℕ) → ℕ → ℕ
swap zero f x = pairs f x
swap (suc g) f x = 2 * swap g (λ j. f (2 * j + x % 2)) (x / 2) + x % 2

swap_below : (g m : ℕ) (f : ℕ → ℕ) (x : ℕ) → g ≤ m → x < 2 ^ suc m → swap g f x < 2 ^ suc m
unfolding swap pairs
swap_below zero m f x h b = let e = pow-succ' 2 m in omega arith
swap_below (suc g) zero f x h b = absurd (omega arith)
swap_below (suc g) (suc m) f x h b =
    let e = pow-succ' 2 (suc m) in
    let i = swap_below g m (λ j. f (2 * j + x % 2)) (x / 2) (omega arith) (omega arith) in omega arith

-- x / 2 divided by w
halves_div : (x w : ℕ) → x / 2 / w ≡ x / (2 * w)
halves_div x w = div-div-eq-div-mul x 2 w

halves-mod : (x w : ℕ) → 0 < w → x % (2 * w) ≡ 2 * (x / 2 % w) + x % 2
halves-mod x w p =
    let a = div-add-mod (x / 2) w in
    let b = div-add-mod x (2 * w) in
    let c = ap (w *◌) (halves_div x w) in
    omega arith

wider : (w : ℕ) → 0 < w → (f : ℕ → ℕ) (x : ℕ) → 2 * exchange w (λ j. f (2 * j + x % 2)) (x / 2) + x % 2 ≡ exchange (2 * w) f x
unfolding exchange
wider w p f x =
    rw (halves_div x (2 * w), halves_div x w, halves-mod x w p)
    (go (x / (2 * (2 * w))) (x / (2 * w)) (x / 2 % w) (x % 2))
  where
    go : (a b c r : ℕ) → 2 * (a * (2 * w) + (b + f (2 * (a * w + c) + r)) % 2 * w + c) + r ≡ a * (2 * (2 * w)) + (b + f (a * (2 * w) + (2 * c + r))) % 2 * (2 * w) + (2 * c + r)
    go a b c r =
        let e : 2 * (a * w + c) + r ≡ a * (2 * w) + (2 * c + r) = omega arith in
        rw e (last ((b + f (a * (2 * w) + (2 * c + r))) % 2) a c r)
      where
        last : (d a c r : ℕ) → 2 * (a * (2 * w) + d * w + c) + r ≡ a * (2 * (2 * w)) + d * (2 * w) + (2 * c + r)
        last d a c r = omega arith

pub swap_closed : (g : ℕ) (f : ℕ → ℕ) (x : ℕ) → swap g f x ≡ exchange (2 ^ g) f x
unfolding swap pairs exchange
swap_closed zero f x = rw (div-one x, mod-one x) (ap (λ j. 2 * (x / 2) + (x + f j) % 2) (let e : x / 2 ≡ x / 2 * 1 + 0 = omega arith in e) ∙ (omega arith))
swap_closed (suc g) f x = ap (λ z. 2 * z + x % 2) (swap_closed g (λ j. f (2 * j + x % 2)) (x / 2)) ∙ wider (2 ^ g) (pow_pos g) f x ∙ ap (λ w. exchange w f x) (sym (pow-succ' 2 g))

pub record Sums (x w e : ℕ) : Type 0 where
  pub one : x / w + e < 4294967296
  pub two : (x / w + e) % 2 * w < 4294967296
  pub three : x / (2 * w) * (2 * w) + (x / w + e) % 2 * w < 4294967296
  pub four : x / (2 * w) * (2 * w) + (x / w + e) % 2 * w + x % w < 4294967296

pub sums : (x w e : ℕ) → x < 65536 → 0 < w → w < 65536 → e < 256 → Sums x w e
sums x w e a b c d =
    let p = div-mul-le_self x (2 * w) in
    let q : (x / w + e) % 2 ≤ 1 = omega arith in
    let r = mul-le-mul_right w q in
    let s = mod-lt x b in
    let t = div-le_self x w in
    record { one = omega arith; two = omega arith; three = omega arith; four = omega arith }

-- the number of the switch of x
pub switch_below : (g m x : ℕ) → g ≤ m → x < 2 ^ suc m → x / (2 * 2 ^ g) * 2 ^ g + x % 2 ^ g < 2 ^ m
switch_below zero m x h b = rw (mod-one x) (let e = pow-succ' 2 m in omega arith)
switch_below (suc g) zero x h b = absurd (omega arith)
switch_below (suc g) (suc m) x h b =
    let e = pow-succ' 2 (suc m) in let f = pow-succ' 2 m in
    let i = switch_below g m (x / 2) (omega arith) (omega arith) in
    rw (pow-succ' 2 g, halves-mod x (2 ^ g) (pow_pos g), ← halves_div x (2 * 2 ^ g)) (go (x / 2 / (2 * 2 ^ g)) (2 ^ g) (x / 2 % 2 ^ g) i f)
  where
    go : (a w c : ℕ) → a * w + c < 2 ^ m → 2 ^ suc m ≡ 2 * 2 ^ m → a * (2 * w) + (2 * c + x % 2) < 2 ^ suc m
    go a w c i f = omega arith

pub exchange_below : (g m : ℕ) (f : ℕ → ℕ) (x : ℕ) → g ≤ m → x < 2 ^ suc m → exchange (2 ^ g) f x < 2 ^ suc m
exchange_below g m f x h b = subst (◌< 2 ^ suc m) (swap_closed g f x) (swap_below g m f x h b)

-- one layer more
pub sent-suc : (m : ℕ) (b : ℕ → ℕ → ℕ) (l x : ℕ) → sent m b (suc l) x ≡ sent m b l (swap (min l (2 * m - l)) (b l) x)
unfolding sent
sent-suc m b l x = ap (sent m b l) (sym (swap_closed (min l (2 * m - l)) (b l) x))

pub gap_up : (m l : ℕ) → l < m → 2 ^ min l (2 * m - l) * 2 ≡ 2 ^ min (l + 1) (2 * m - (l + 1))
gap_up m l h =
    let a : min l (2 * m - l) ≡ l = omega arith in let b : min (l + 1) (2 * m - (l + 1)) ≡ suc l = omega arith in
    rw (a, b, pow-succ' 2 l) (omega arith)

pub gap_down : (m l : ℕ) → m ≤ l → l < 2 * m → 2 ^ min l (2 * m - l) / 2 ≡ 2 ^ min (l + 1) (2 * m - (l + 1))
gap_down m l h c =
    let a : min l (2 * m - l) ≡ suc (2 * m - (l + 1)) = omega arith in let b : min (l + 1) (2 * m - (l + 1)) ≡ 2 * m - (l + 1) = omega arith in
    rw (a, b, pow-succ' 2 (2 * m - (l + 1))) (omega arith)

pub gap_small : (m l : ℕ) → m < 16 → l < 2 * m + 1 → 2 ^ min l (2 * m - l) < 65536
gap_small m l h c = let p = pow-le-pow_right {n = 2} (omega arith) {i = min l (2 * m - l)} {j = 15} (omega arith) in omega arith
