-- The control bits of a permutation from the outer layers and the bits of the two halves. Assumes nothing.
use mathlib.Core.Path.{◌≡◌, sym, ap, ◌∙◌, subst}
use mathlib.Core.Logic.{◌≢◌}
use mathlib.Core.List.{List}
use Prim.Native.Nat.{ℕ, zero, suc, ◌+◌, ◌*◌, ◌/◌, ◌%◌, ◌^◌, ◌≤◌, ◌<◌}
use native.Mathlib.Omega.{arith}
use native.Mathlib.Decide.{dec_lt, ℕ_discrete}
use native.Mathlib.Nat.{pow-succ', mul-le-mul_right, mul-le-mul_left}
use Rattle.network.specs.Network.{bits, first, last, middle, middle⁻, part}
use Rattle.bits.specs.Bits.{bit_at}
use Rattle.control_passes.specs.Passes.{spot, Done, Layer}
use Rattle.network.proofs.Network.{inner, bits_inner, bits-last}

-- places of different switches are different
spot_less : (off step h l j l' j' : ℕ) → 0 < step → j < h → l < l' → spot off step h l j < spot off step h l' j'
spot_less off step h l j l' j' s b c =
    let e = mul-le-mul_right h c in
    let d : suc (l * h + j) ≤ l' * h + j' = omega arith in
    omega (arith, mul-le-mul_left step d)

spot_layer : (off step h l j l' j' : ℕ) → 0 < step → j < h → j' < h → l ≢ l' → spot off step h l j ≢ spot off step h l' j'
spot_layer off step h l j l' j' s b b' d e = elim (dec_lt l l') [
  | yes c ↦ (let k = spot_less off step h l j l' j' s b c in omega arith)
  | no c ↦ (let k = spot_less off step h l' j' l j s b' (omega arith) in omega arith)
]

spot_switch : (off step h l j j' : ℕ) → 0 < step → j < j' → spot off step h l j < spot off step h l j'
spot_switch off step h l j j' s c =
    let d : suc (l * h + j) ≤ l * h + j' = omega arith in
    omega (arith, mul-le-mul_left step d)

pub spot_other : (off step h l j j' : ℕ) → 0 < step → j ≢ j' → spot off step h l j ≢ spot off step h l j'
spot_other off step h l j j' s d e = elim (dec_lt j j') [
  | yes c ↦ (let k = spot_switch off step h l j j' s c in omega arith)
  | no c ↦ (let k = spot_switch off step h l j' j s (omega arith) in omega arith)
]

pub spot_top : (off step h l j : ℕ) → 0 < step → off + (l * h + j) ≤ spot off step h l j
spot_top off step h l j s = omega (arith, mul-le-mul_right (l * h + j) s)

-- a place of a half
pub spot_half : (off step m p l j : ℕ) → spot (off + step * (2 ^ suc m + p)) (2 * step) (2 ^ m) l j ≡ spot off step (2 ^ suc m) (suc l) (2 * j + p)
spot_half off step m p l j = rw (pow-succ' 2 m) (omega arith)

module _ (m off step : ℕ) (pos : 0 < step) (π ρ : ℕ → ℕ) (b b₁ b₂ b₃ b₄ : List ℕ) where
  abbrev h : ℕ
  h = 2 ^ suc m

  abbrev n : ℕ
  n = 2 ^ suc (suc m)

  module _ (o : Layer off step h 0 (first n π ρ) b b₁) (z : Layer off step h (suc (2 * m + 1)) (last n π ρ) b₁ b₂)
      (even : Done m (off + step * (h + 0)) (2 * step) (part 0 (middle n π ρ)) (part 0 (middle⁻ n π ρ)) b₂ b₃)
      (odd : Done m (off + step * (h + 1)) (2 * step) (part 1 (middle n π ρ)) (part 1 (middle⁻ n π ρ)) b₃ b₄) where
    twice : h ≡ 2 * 2 ^ m
    twice = pow-succ' 2 m

    -- what no half touches
    past : (k : ℕ) → ((l j : ℕ) → l < 2 * m + 1 → j < h → k ≢ spot off step h (suc l) j) → bit_at b₄ k ≡ bit_at b₂ k
    past k d =
        odd.keep k (λ l j a c e. d l (2 * j + 1) a (omega (arith, twice)) (e ∙ spot_half off step m 1 l j))
        ∙ even.keep k (λ l j a c e. d l (2 * j + 0) a (omega (arith, twice)) (e ∙ spot_half off step m 0 l j))

    outer_first : (j : ℕ) → j < h → bit_at b₄ (spot off step h 0 j) ≡ first n π ρ j
    outer_first j c =
        past _ (λ l i a d. spot_layer off step h 0 j (suc l) i pos c d (omega arith))
        ∙ z.keep _ (λ i d. spot_layer off step h 0 j (suc (2 * m + 1)) i pos c d (omega arith))
        ∙ o.put j c

    outer_last : (j : ℕ) → j < h → bit_at b₄ (spot off step h (suc (2 * m + 1)) j) ≡ last n π ρ j
    outer_last j c =
        past _ (λ l i a d. spot_layer off step h (suc (2 * m + 1)) j (suc l) i pos c d (omega arith))
        ∙ z.put j c

    within : (l i p : ℕ) → l < 2 * m + 1 → i < 2 ^ m → Dec (p ≡ 0) → p < 2
        → bit_at b₄ (spot off step h (suc l) (2 * i + p)) ≡ bits (suc m) π ρ (suc l) (2 * i + p)
    unfolding inner
    within l i p a c (yes e) q = rw e (
        odd.keep _ (λ l' i' a' c' s. elim (ℕ_discrete l l') [
          | yes k ↦ (let s' : spot off step h (suc l) (2 * i + 0) ≡ spot off step h (suc l) (2 * i' + 1) = s ∙ spot_half off step m 1 l' i' ∙ ap (λ v. spot off step h (suc v) (2 * i' + 1)) (sym k) in
              spot_other off step h (suc l) (2 * i + 0) (2 * i' + 1) pos (omega arith) s')
          | no k ↦ spot_layer off step h (suc l) (2 * i + 0) (suc l') (2 * i' + 1) pos (omega (arith, twice)) (omega (arith, twice)) (omega arith) (s ∙ spot_half off step m 1 l' i')
        ])
        ∙ ap (bit_at b₃) (sym (spot_half off step m 0 l i)) ∙ even.put l i a c ∙ sym (bits_inner m π ρ 0 (omega arith) l i a))
    within l i p a c (no e) q = let d : p ≡ 1 = omega arith in rw d (
        ap (bit_at b₄) (sym (spot_half off step m 1 l i)) ∙ odd.put l i a c ∙ sym (bits_inner m π ρ 1 (omega arith) l i a))

    pub combined : Done (suc m) off step π ρ b b₄
    unfolding bits
    combined = record { put = put; keep = keep; bytes = odd.bytes }
      where
        put : (l j : ℕ) → l < 2 * suc m + 1 → j < h → bit_at b₄ (spot off step h l j) ≡ bits (suc m) π ρ l j
        put zero j a c = outer_first j c
        put (suc l) j a c = elim (dec_lt l (2 * m + 1)) [
          | yes d ↦ (let e : 2 * (j / 2) + j % 2 ≡ j = omega arith in
              subst (λ i. bit_at b₄ (spot off step h (suc l) i) ≡ bits (suc m) π ρ (suc l) i) e
              (within l (j / 2) (j % 2) d (omega (arith, twice)) (ℕ_discrete (j % 2) 0) (omega arith)))
          | no d ↦ (let e : 2 * m + 1 ≡ l = omega arith in
              subst (λ i. bit_at b₄ (spot off step h (suc i) j) ≡ bits (suc m) π ρ (suc i) j) e (outer_last j c ∙ sym (bits-last m π ρ j)))
        ]

        keep : (k : ℕ) → ((l j : ℕ) → l < 2 * suc m + 1 → j < h → k ≢ spot off step h l j) → bit_at b₄ k ≡ bit_at b k
        keep k d =
            past k (λ l j a c. d (suc l) j (omega arith) c)
            ∙ z.keep k (λ j c. d (suc (2 * m + 1)) j (omega arith) c)
            ∙ o.keep k (λ j c. d 0 j (omega arith) c)
