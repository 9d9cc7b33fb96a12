-- The network sends out each number below 2 ^ (m + 1) once, whatever its settings. Assumes nothing.
use mathlib.Core.Path.{◌≡◌, sym, ap, ◌∙◌}
use Prim.Native.Nat.{ℕ, zero, suc, ◌+◌, ◌-◌, ◌*◌, ◌/◌, ◌%◌, ◌^◌, ◌≤◌, ◌<◌, min}
use native.Mathlib.Omega.{arith}
use Rattle.network.specs.Network.{exchange, sent, network}
use Rattle.network.proofs.Split.{pairs-pairs}
use Rattle.network.proofs.Layers.{swap, swap_closed, exchange_below}

-- a layer is its own inverse
swap_swap : (g : ℕ) (f : ℕ → ℕ) (x : ℕ) → swap g f (swap g f x) ≡ x
unfolding swap
swap_swap zero f x = pairs-pairs f x
swap_swap (suc g) f x = twice (swap g (λ j. f (2 * j + x % 2)) (x / 2)) (swap_swap g (λ j. f (2 * j + x % 2)) (x / 2))
  where
    twice : (y : ℕ) → swap g (λ j. f (2 * j + x % 2)) y ≡ x / 2
        → 2 * swap g (λ j. f (2 * j + (2 * y + x % 2) % 2)) ((2 * y + x % 2) / 2) + (2 * y + x % 2) % 2 ≡ x
    twice y h =
        let e : (2 * y + x % 2) % 2 ≡ x % 2 = omega arith in
        let d : (2 * y + x % 2) / 2 ≡ y = omega arith in
        rw (e, d, h) (omega arith)

exchange_twice : (g : ℕ) (f : ℕ → ℕ) (x : ℕ) → exchange (2 ^ g) f (exchange (2 ^ g) f x) ≡ x
exchange_twice g f x = rw (← swap_closed g f x, ← swap_closed g f (swap g f x)) (swap_swap g f x)

sent_injective : (m : ℕ) (b : ℕ → ℕ → ℕ) (l x y : ℕ) → sent m b l x ≡ sent m b l y → x ≡ y
unfolding sent
sent_injective m b zero x y e = e
sent_injective m b (suc l) x y e =
    let f : ℕ → ℕ = exchange (2 ^ min l (2 * m - l)) (b l) in
    sym (exchange_twice (min l (2 * m - l)) (b l) x) ∙ ap f (sent_injective m b l (f x) (f y) e) ∙ exchange_twice (min l (2 * m - l)) (b l) y

pub network_injective : (m : ℕ) (b : ℕ → ℕ → ℕ) (x y : ℕ) → network m b x ≡ network m b y → x ≡ y
unfolding network
network_injective m b x y e = sent_injective m b (2 * m + 1) x y e

sent_inside : (m : ℕ) (b : ℕ → ℕ → ℕ) (l x : ℕ) → l ≤ 2 * m + 1 → x < 2 ^ suc m → sent m b l x < 2 ^ suc m
unfolding sent
sent_inside m b zero x h c = c
sent_inside m b (suc l) x h c = sent_inside m b l _ (omega arith) (exchange_below (min l (2 * m - l)) m (b l) x (omega arith) c)

pub network_below : (m : ℕ) (b : ℕ → ℕ → ℕ) (x : ℕ) → x < 2 ^ suc m → network m b x < 2 ^ suc m
unfolding network
network_below m b x c = sent_inside m b (2 * m + 1) x (omega arith) c
