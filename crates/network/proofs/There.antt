-- The network sends out what its switches say, and no other bits count; with the control bits of a list it sends out the list.
-- Assumes nothing.
use mathlib.Core.Path.{◌≡◌, refl, ap, ◌∙◌}
use mathlib.Core.List.{List}
use Prim.Native.Nat.{ℕ, zero, suc, ◌+◌, ◌-◌, ◌*◌, ◌/◌, ◌%◌, ◌^◌, ◌≤◌, ◌<◌, min}
use native.Mathlib.Omega.{arith}
use Rattle.network.specs.Network.{exchange, sent, network, bits, val, seek}
use Rattle.network.specs.Tables.{Each}
use Rattle.network.proofs.Lists.{each_perm}
use Rattle.network.proofs.Network.{realises}
use Rattle.network.proofs.Layers.{exchange_below, switch_below}

exchange_cong : (g m : ℕ) (f h : ℕ → ℕ) → ((j : ℕ) → j < 2 ^ m → f j ≡ h j) → g ≤ m → (x : ℕ) → x < 2 ^ suc m
    → exchange (2 ^ g) f x ≡ exchange (2 ^ g) h x
unfolding exchange
exchange_cong g m f h e c x b =
    ap (λ i. x / (2 * 2 ^ g) * (2 * 2 ^ g) + (x / 2 ^ g + i) % 2 * 2 ^ g + x % 2 ^ g) (e _ (switch_below g m x c b))

pub sent_below : (m : ℕ) (b c : ℕ → ℕ → ℕ) (l : ℕ) → l ≤ 2 * m + 1 → ((i j : ℕ) → i < l → j < 2 ^ m → b i j ≡ c i j)
    → (x : ℕ) → x < 2 ^ suc m → sent m b l x ≡ sent m c l x
unfolding sent
sent_below m b c zero a h x d = refl
sent_below m b c (suc l) a h x d =
    ap (sent m b l) (exchange_cong (min l (2 * m - l)) m (b l) (c l) (λ j e. h l j (omega arith) e) (omega arith) x d)
    ∙ sent_below m b c l (omega arith) (λ i j e f. h i j (omega arith) f) _ (exchange_below (min l (2 * m - l)) m (c l) x (omega arith) d)

-- the network on the numbers below 2 ^ (m + 1), with settings that are the control bits of the list
pub sends : (m : ℕ) (s : List ℕ) (b : ℕ → ℕ → ℕ) → Each (2 ^ suc m) s
    → ((l j : ℕ) → l < 2 * m + 1 → j < 2 ^ m → b l j ≡ bits m (val s) (seek (val s) (2 ^ suc m)) l j)
    → (x : ℕ) → x < 2 ^ suc m → network m b x ≡ val s x
unfolding network
sends m s b e h x c =
    sent_below m b (bits m (val s) (seek (val s) (2 ^ suc m))) (2 * m + 1) (omega arith) h x c
    ∙ realises m _ _ (each_perm e) x
