-- Pointer doubling: from the 2 ^ i-th iterate and the least of the first 2 ^ i to the next. Assumes nothing.
use mathlib.Core.Path.{◌≡◌, refl, ap, ◌∙◌}
use Prim.Native.Nat.{ℕ, zero, suc, ◌+◌, ◌*◌, ◌^◌, ◌<◌, min}
use native.Mathlib.Omega.{arith}
use native.Mathlib.Nat.{add-suc, pow-succ'}
use lib.Pow.{pow_pos}
use Rattle.network.specs.Network.{it, low}

pub it_one : (σ : ℕ → ℕ) (x : ℕ) → it σ (2 ^ 0) x ≡ σ x
unfolding it
it_one σ x = refl

pub low_one : (σ : ℕ → ℕ) (x : ℕ) → low σ (2 ^ 0) x ≡ x
unfolding low it
low_one σ x = omega arith

pub it-add : (σ : ℕ → ℕ) (a b x : ℕ) → it σ (b + a) x ≡ it σ a (it σ b x)
unfolding it
it-add σ zero b x = ap (λ k. it σ k x) (let e : b + 0 ≡ b = omega arith in e)
it-add σ (suc a) b x = ap (λ k. it σ k x) (add-suc b a) ∙ ap σ (it-add σ a b x)

pub low-add : (σ : ℕ → ℕ) (a b x : ℕ) → low σ (b + suc a) x ≡ min (low σ b x) (low σ (suc a) (it σ b x))
unfolding low it
low-add σ zero b x = ap (λ k. low σ k x) (let e : b + 1 ≡ suc b = omega arith in e) ∙ (omega arith)
low-add σ (suc a) b x =
    ap (λ k. low σ k x) (add-suc b (suc a))
    ∙ (let h = low-add σ a b x in let e = it-add σ (suc a) b x in omega arith)

pub it_double : (σ : ℕ → ℕ) (i x : ℕ) → it σ (2 ^ (i + 1)) x ≡ it σ (2 ^ i) (it σ (2 ^ i) x)
it_double σ i x = ap (λ k. it σ k x) (twice i) ∙ it-add σ (2 ^ i) (2 ^ i) x
  where
    twice : (i : ℕ) → 2 ^ (i + 1) ≡ 2 ^ i + 2 ^ i
    twice i = ap (2 ^◌) (let e : i + 1 ≡ suc i = omega arith in e) ∙ pow-succ' 2 i ∙ (omega arith)

pub low_double : (σ : ℕ → ℕ) (i x : ℕ) → low σ (2 ^ (i + 1)) x ≡ min (low σ (2 ^ i) x) (low σ (2 ^ i) (it σ (2 ^ i) x))
low_double σ i x = go (2 ^ i) (pow_pos i) (ap (2 ^◌) (let e : i + 1 ≡ suc i = omega arith in e) ∙ pow-succ' 2 i)
  where
    go : (k : ℕ) → 0 < k → 2 ^ (i + 1) ≡ 2 * k → low σ (2 ^ (i + 1)) x ≡ min (low σ k x) (low σ k (it σ k x))
    go zero h e = absurd (omega arith)
    go (suc k) h e = ap (λ n. low σ n x) (let d : 2 ^ (i + 1) ≡ suc k + suc k = omega arith in d) ∙ low-add σ k (suc k) x
