-- What one step of the program leaves, in terms of the definitions. Assumes nothing.
use mathlib.Core.Path.{◌≡◌, sym, ap, ◌∙◌, subst}
use mathlib.Core.List.{List}
use Prim.Native.Nat.{ℕ, zero, suc, ◌+◌, ◌-◌, ◌*◌, ◌/◌, ◌%◌, ◌^◌, ◌<◌}
use native.Mathlib.Omega.{arith}
use native.Mathlib.Nat.{pow-succ'}
use lib.ListN.{length}
use Rattle.network.specs.Network.{turn, pairs, cyc, first, last, middle, part, seek, val}
use Rattle.network.specs.Tables.{at, Tab}
use Rattle.control_passes.specs.Passes.{Level, Layer, Fits, Halved}
use Rattle.network.proofs.Lists.{get_d_any}
use Rattle.control_passes.proofs.Connect.{size}

pub pow_half : (k : ℕ) → 0 < k → 2 ^ k ≡ 2 * 2 ^ (k - 1)
pow_half zero h = absurd (omega arith)
pow_half (suc k) h = pow-succ' 2 k ∙ ap (λ i. 2 * 2 ^ i) (let e : k ≡ suc k - 1 = omega arith in e)

layer_cong : (off step h l : ℕ) (f g : ℕ → ℕ) (b b' : List ℕ) → ((j : ℕ) → j < h → f j ≡ g j) → Layer off step h l f b b' → Layer off step h l g b b'
layer_cong off step h l f g b b' e o = record { put = λ j c. o.put j c ∙ e j c; keep = o.keep; bytes = o.bytes }

module _ (k : ℕ) (pi : List ℕ) (lv : Level k pi) where
  abbrev h : ℕ
  h = 2 ^ (k - 1)

  abbrev n : ℕ
  n = 2 ^ k

  abbrev π : ℕ → ℕ
  π = val pi

  abbrev ρ : ℕ → ℕ
  ρ = seek π n

  pub two : n ≡ 2 * h
  two = pow_half k lv.some

  pub half : length pi / 2 ≡ h
  half = omega (arith, size k pi lv, two)

  pub room : (off step l : ℕ) (b : List ℕ) → Fits (k - 1) off step b → l < 2 * (k - 1) + 1
      → (j : ℕ) → j < length pi / 2 → off + step * (l * (length pi / 2) + j) < 8 * length b
  room off step l b f c j d = rw half (f l j c (rw half at d))

  -- a list's value is below n
  low-at : (x : ℕ) → x < n → at pi x < n
  low-at x b = rw (get_d_any pi x 0 x (omega (arith, size k pi lv))) (lv.each.below x b)

  pub at_low : (x : ℕ) → x < length pi → at pi x < length pi
  at_low x b = let a = low-at x (omega (arith, size k pi lv)) in omega (arith, size k pi lv)

  module _ (c : List ℕ) (tc : Tab n c (cyc n π ρ)) where
    firsts : (j : ℕ) → j < h → at c (2 * j) % 2 ≡ first n π ρ j
    unfolding first
    firsts j b = ap (◌% 2) (tc (2 * j) (omega (arith, two)))

    pub first_layer : (off step : ℕ) (b b' : List ℕ) → Layer off step (length pi / 2) 0 (λ j. at c (2 * j) % 2) b b'
        → Layer off step h 0 (first n π ρ) b b'
    first_layer off step b b' o = layer_cong off step h 0 _ _ b b' firsts (subst (λ i. Layer off step i 0 (λ j. at c (2 * j) % 2) b b') half o)

    module _ (q : List ℕ) (tq : Tab (length pi) q (λ x. pairs (λ j. at c (2 * j) % 2) (at pi x))) where
      settled : (x : ℕ) → x < n → at q x ≡ pairs (first n π ρ) (π x)
      unfolding pairs
      settled x b =
          let a = low-at x b in
          tq x (omega (arith, size k pi lv))
          ∙ ap (λ f. turn f (at pi x)) (firsts (at pi x / 2) (omega (arith, two)))
          ∙ ap (λ y. turn (first n π ρ (y / 2)) y) (get_d_any pi x 0 x (omega (arith, size k pi lv)))

      lasts : (j : ℕ) → j < h → at q (2 * j) % 2 ≡ last n π ρ j
      unfolding last
      lasts j b = ap (◌% 2) (settled (2 * j) (omega (arith, two)))

      pub last_layer : (off step l : ℕ) (b b' : List ℕ) → Layer off step (length pi / 2) l (λ j. at q (2 * j) % 2) b b'
          → Layer off step h l (last n π ρ) b b'
      last_layer off step l b b' o = layer_cong off step h l _ _ b b' lasts (subst (λ i. Layer off step i l (λ j. at q (2 * j) % 2) b b') half o)

      -- a place of the middle
      middles : (p j : ℕ) → p < 2 → j < h → at q (turn (at q (2 * j) % 2) (2 * j + p)) ≡ middle n π ρ (2 * j + p)
      unfolding middle pairs
      middles p j a b =
          let e : (2 * j + p) / 2 ≡ j = omega arith in
          ap (λ l. at q (turn l (2 * j + p))) (lasts j b)
          ∙ settled (turn (last n π ρ j) (2 * j + p)) (omega (arith, two))
          ∙ ap (λ i. pairs (first n π ρ) (π (turn (last n π ρ i) (2 * j + p)))) (sym e)

      pub halved : (out r : List ℕ)
          → Tab (length pi / 2) out (λ j. at q (turn (at q (2 * j) % 2) (2 * j)) / 2)
          → ((j : ℕ) → j < length pi / 2 → at out (length pi / 2 + j) ≡ at q (turn (at q (2 * j) % 2) (2 * j + 1)) / 2)
          → Tab (length pi) r (at out) → Halved n h pi r
      unfolding part
      halved out r ev od t = record { even = even; odd = odd }
        where
          even : (j : ℕ) → j < h → at r j ≡ middle n π ρ (2 * j + 0) / 2
          even j b =
              t j (omega (arith, two, size k pi lv)) ∙ ev j (omega (arith, half))
              ∙ ap (λ y. at q (turn (at q (2 * j) % 2) y) / 2) (let e : 2 * j ≡ 2 * j + 0 = omega arith in e)
              ∙ ap (◌/ 2) (middles 0 j (omega arith) b)

          odd : (j : ℕ) → j < h → at r (h + j) ≡ middle n π ρ (2 * j + 1) / 2
          odd j b =
              t (h + j) (omega (arith, two, size k pi lv)) ∙ ap (λ i. at out (i + j)) (sym half) ∙ od j (omega (arith, half))
              ∙ ap (◌/ 2) (middles 1 j (omega arith) b)
