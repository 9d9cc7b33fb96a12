-- The network of 2m + 1 layers on 2 ^ (m + 1) values, the control bits of a permutation, and: the network with them sends
-- out the permutation.
-- Assumes nothing.
use mathlib.Core.Path.{◌≡◌, refl, sym, ap, ◌∙◌, fun_ext}
use mathlib.Core.Logic.{◌≢◌}
use Prim.Native.Nat.{ℕ, zero, suc, ◌+◌, ◌-◌, ◌*◌, ◌/◌, ◌%◌, ◌^◌, ◌≤◌, ◌<◌, min}
use native.Mathlib.Nat.{pow-succ'}
use native.Mathlib.Omega.{arith}
use native.Mathlib.Decide.{dec_lt, ℕ_discrete}
use lib.Pow.{pow_pos}
use Rattle.network.specs.Network.{turn, pairs, exchange, sent, network, last, middle, middle⁻, part, bits}
use Rattle.network.proofs.Layers.{swap, swap_closed, sent-suc}
use Rattle.network.proofs.Split.{Perm, part_perm, splits, middle_bit, injective, inside}

-- The layers between the first and the last are two networks, on the even and on the odd positions.
unfoldable pub inner : (ℕ → ℕ → ℕ) → ℕ → ℕ → ℕ → ℕ
inner b p l j = b (suc l) (2 * j + p)

pub bits_inner : (m : ℕ) (π ρ : ℕ → ℕ) (p : ℕ) → p < 2 → (l j : ℕ) → l < 2 * m + 1
    → inner (bits (suc m) π ρ) p l j
    ≡ bits m (part p (middle (2 ^ suc (suc m)) π ρ)) (part p (middle⁻ (2 ^ suc (suc m)) π ρ)) l j
unfolding bits inner
bits_inner m π ρ p b l j h =
    go (dec_lt l (2 * m + 1))
    ∙ (let e : (2 * j + p) % 2 ≡ p = omega arith in let f : (2 * j + p) / 2 ≡ j = omega arith in
    ap (λ q. both q ((2 * j + p) / 2)) e ∙ ap (both p) f)
  where
    both : ℕ → ℕ → ℕ
    both q i = bits m (part q (middle (2 ^ suc (suc m)) π ρ)) (part q (middle⁻ (2 ^ suc (suc m)) π ρ)) l i

    go : (d : Dec (l < 2 * m + 1))
        → elim d as (λ _. ℕ) [ yes _ ↦ both ((2 * j + p) % 2) ((2 * j + p) / 2) | no _ ↦ last (2 ^ suc (suc m)) π ρ (2 * j + p) ]
        ≡ both ((2 * j + p) % 2) ((2 * j + p) / 2)
    go (yes _) = refl
    go (no n) = absurd (n h)

pub bits-last : (m : ℕ) (π ρ : ℕ → ℕ) (j : ℕ) → bits (suc m) π ρ (suc (2 * m + 1)) j ≡ last (2 ^ suc (suc m)) π ρ j
unfolding bits
bits-last m π ρ j = go (dec_lt (2 * m + 1) (2 * m + 1))
  where
    some : ℕ
    some = bits m (part (j % 2) (middle (2 ^ suc (suc m)) π ρ)) (part (j % 2) (middle⁻ (2 ^ suc (suc m)) π ρ)) (2 * m + 1) (j / 2)

    go : (d : Dec (2 * m + 1 < 2 * m + 1))
        → elim d as (λ _. ℕ) [ yes _ ↦ some | no _ ↦ last (2 ^ suc (suc m)) π ρ j ] ≡ last (2 ^ suc (suc m)) π ρ j
    go (yes h) = absurd (omega arith)
    go (no n) = refl

sent_cong : (m : ℕ) (b c : ℕ → ℕ → ℕ) (l : ℕ) → ((i j : ℕ) → i < l → b i j ≡ c i j) → (x : ℕ) → sent m b l x ≡ sent m c l x
unfolding sent
sent_cong m b c zero h x = refl
sent_cong m b c (suc l) h x =
    sent_cong m b c l (λ i j k. h i j (omega arith)) _
    ∙ ap (λ f. sent m c l (exchange (2 ^ min l (2 * m - l)) f x)) (fun_ext (λ j. h l j (omega arith)))

peel : (m : ℕ) (b : ℕ → ℕ → ℕ) (l : ℕ) → l ≤ 2 * m + 1 → (x : ℕ)
    → sent (suc m) b (suc l) x ≡ pairs (b 0) (2 * sent m (inner b (x % 2)) l (x / 2) + x % 2)
unfolding sent swap inner
peel m b zero h x =
    let e : min 0 (2 * suc m - 0) ≡ 0 = omega arith in
    let d : x ≡ 2 * (x / 2) + x % 2 = omega arith in
    sent-suc (suc m) b 0 x
    ∙ ap (λ g. swap g (b 0) x) e ∙ ap (pairs (b 0)) d
peel m b (suc l) h x =
    let s : ℕ = swap (min l (2 * m - l)) (inner b (x % 2) l) (x / 2) in
    let e : min (suc l) (2 * suc m - suc l) ≡ suc (min l (2 * m - l)) = omega arith in
    let d : (2 * s + x % 2) % 2 ≡ x % 2 = omega arith in
    let f : (2 * s + x % 2) / 2 ≡ s = omega arith in
    sent-suc (suc m) b (suc l) x
    ∙ ap (λ g. sent (suc m) b (suc l) (swap g (b (suc l)) x)) e
    ∙ peel m b l (omega arith) (2 * s + x % 2)
    ∙ ap (λ p. pairs (b 0) (2 * sent m (inner b p) l ((2 * s + x % 2) / 2) + p)) d
    ∙ ap (λ z. pairs (b 0) (2 * sent m (inner b (x % 2)) l z + x % 2)) (f ∙ swap_closed (min l (2 * m - l)) (inner b (x % 2) l) (x / 2))

-- the network's outer layers taken off
pub network-suc : (m : ℕ) (b : ℕ → ℕ → ℕ) (x : ℕ)
    → network (suc m) b x
    ≡ pairs (b 0) (2 * network m (inner b (pairs (b (suc (2 * m + 1))) x % 2)) (pairs (b (suc (2 * m + 1))) x / 2)
    + pairs (b (suc (2 * m + 1))) x % 2)
unfolding network sent swap
network-suc m b x =
    let e : 2 * suc m + 1 ≡ suc (suc (2 * m + 1)) = omega arith in
    let d : min (suc (2 * m + 1)) (2 * suc m - suc (2 * m + 1)) ≡ 0 = omega arith in
    ap (λ k. sent (suc m) b k x) e
    ∙ sent-suc (suc m) b (suc (2 * m + 1)) x
    ∙ ap (λ g. sent (suc m) b (suc (2 * m + 1)) (swap g (b (suc (2 * m + 1))) x)) d
    ∙ peel m b (2 * m + 1) (omega arith) _

two : {π ρ : ℕ → ℕ} → Perm 2 π ρ → (x : ℕ) → turn (π (2 * (x / 2)) % 2) x ≡ π x
two {π} {ρ} perm x = elim (dec_lt x 2) [
  | yes b ↦ (let d : 2 * (x / 2) ≡ 0 = omega arith in rw d (elim (ℕ_discrete x 0) [
    | yes e ↦ rw e (omega (arith, low₀))
    | no e ↦ (let f : x ≡ 1 = omega arith in rw f (omega (arith, low₀, low₁, other)))
  ]))
  | no b ↦ rw (perm.outside (2 * (x / 2)) (omega arith), perm.outside x (omega arith)) (omega arith)
]
  where
    low₀ : π 0 < 2
    low₀ = inside perm 0 (omega arith)

    low₁ : π 1 < 2
    low₁ = inside perm 1 (omega arith)

    other : π 1 ≢ π 0
    other e = let z : ◌≡◌ {A = ℕ} 1 0 = injective perm 1 0 e in omega arith

-- one step of the induction, from the two halves of the middle
step : (m : ℕ) (π ρ : ℕ → ℕ) → Perm (2 ^ suc (suc m)) π ρ
    → ((p : ℕ) → p < 2 → (j : ℕ)
    → network m (bits m (part p (middle (2 ^ suc (suc m)) π ρ)) (part p (middle⁻ (2 ^ suc (suc m)) π ρ))) j
    ≡ part p (middle (2 ^ suc (suc m)) π ρ) j)
    → (x : ℕ) → network (suc m) (bits (suc m) π ρ) x ≡ π x
unfolding network bits part
step m π ρ perm ih x =
    network-suc m b x
    ∙ ap (λ f. outer (pairs f x)) (fun_ext (bits-last m π ρ))
    ∙ ap (λ z. pairs (b 0) (2 * z + y % 2))
    (sent_cong m _ _ (2 * m + 1) (λ l j h. bits_inner m π ρ (y % 2) (omega arith) l j h) (y / 2) ∙ ih (y % 2) (omega arith) (y / 2))
    ∙ ap (pairs (b 0)) whole
    ∙ splits n π ρ perm (2 ^ suc m) (pow-succ' 2 (suc m)) (pow_pos (suc m)) x
  where
    n : ℕ
    n = 2 ^ suc (suc m)

    b : ℕ → ℕ → ℕ
    b = bits (suc m) π ρ

    y : ℕ
    y = pairs (last n π ρ) x

    outer : ℕ → ℕ
    outer z = pairs (b 0) (2 * network m (inner b (z % 2)) (z / 2) + z % 2)

    whole : 2 * (middle n π ρ (2 * (y / 2) + y % 2) / 2) + y % 2 ≡ middle n π ρ y
    whole =
        let e : 2 * (y / 2) + y % 2 ≡ y = omega arith in
        rw e (omega (arith, middle_bit n π ρ perm (2 ^ suc m) (pow-succ' 2 (suc m)) (pow_pos (suc m)) y))

pub realises : (m : ℕ) (π ρ : ℕ → ℕ) → Perm (2 ^ suc m) π ρ → (x : ℕ) → network m (bits m π ρ) x ≡ π x
unfolding network sent swap bits pairs
realises zero π ρ perm x = sym (swap_closed 0 (bits 0 π ρ 0) x) ∙ two perm x
realises (suc m) π ρ perm x = step m π ρ perm (λ p b. realises m _ _ (part_perm (2 ^ suc (suc m)) π ρ perm (2 ^ suc m) (pow-succ' 2 (suc m)) (pow_pos (suc m)) p b)) x
