-- The unused numbers, one after another behind the list. Assumes nothing.
use mathlib.Core.Path.{◌≡◌, refl, sym, ap, ◌∙◌}
use mathlib.Core.Bool.{Bool, true, false, cond}
use mathlib.Core.List.{List, [], ◌∷◌, ◌++◌, append-nil, append_assoc}
use Prim.Native.Nat.{ℕ, zero, suc, ◌+◌, ◌-◌, ◌^◌, ◌≤◌, ◌<◌}
use native.Mathlib.Nat.{pow-le-pow_right}
use native.Mathlib.Numerals.{add-one}
use native.Mathlib.Omega.{arith}
use native.Mathlib.Decide.{ℕ_discrete}
use lib.ListN.{length, take, set, length-append}
use lib.Seq.{take-suc-set, take-set-le}
use Rattle.network.specs.Network.{unused}
use Rattle.network.specs.Tables.{Each}
use Rattle.completion.proofs.Marking.{fresh}

pub pow_small : (m : ℕ) → m < 14 → 2 ^ m ≤ 8192
pow_small m h = pow-le-pow_right {n = 2} (omega arith) {i = m} {j = 13} (omega arith)

module _ (s : List ℕ) where
  pub unused_none : unused s 0 ≡ []
  unfolding unused
  unused_none = refl

  -- the numbers below v + k begin with those below v
  unused_more : (v k : ℕ) → (r : List ℕ) × (unused s (v + k) ≡ unused s v ++ r)
  unfolding unused
  unused_more v zero = let e : v + 0 ≡ v = omega arith in ([], ap (unused s) e ∙ sym (append-nil (unused s v)))
  unused_more v (suc k) =
      let more = unused_more v k in
      let c : List ℕ = cond (fresh s (v + k)) ((v + k) ∷ []) [] in
      let e : v + suc k ≡ suc (v + k) = omega arith in
      (more.0 ++ c, ap (unused s) e ∙ ap (◌++ c) more.1 ∙ append_assoc (unused s v) more.0 c)

  nothing : (r : List ℕ) → length r ≤ 0 → r ≡ []
  nothing [] h = refl
  nothing (x ∷ r) h = absurd (omega arith)

  pub unused-le : (v w : ℕ) → v ≤ w → length (unused s v) ≤ length (unused s w)
  unused-le v w h =
      let more = unused_more v (w - v) in
      let e : v + (w - v) ≡ w = omega arith in
      let l : length (unused s w) ≡ length (unused s v) + length more.0 =
      ap (λ (k : ℕ). length (unused s k)) (sym e) ∙ ap length more.1 ∙ length-append (unused s v) more.0 in
      omega arith

  pub unused_all : (v w : ℕ) → v ≤ w → length (unused s w) ≤ length (unused s v) → unused s v ≡ unused s w
  unused_all v w h b =
      let more = unused_more v (w - v) in
      let e : v + (w - v) ≡ w = omega arith in
      let q : unused s w ≡ unused s v ++ more.0 = ap (unused s) (sym e) ∙ more.1 in
      let z : length more.0 ≤ 0 = omega (arith, ap length q, length-append (unused s v) more.0) in
      sym (q ∙ ap (◌++◌ (unused s v)) (nothing more.0 z) ∙ append-nil (unused s v))

  unused-fresh : (v : ℕ) → fresh s v ≡ true → unused s (suc v) ≡ unused s v ++ (v ∷ [])
  unfolding unused
  unused-fresh v e = rw e

  unused_seen : (v : ℕ) → fresh s v ≡ false → unused s (suc v) ≡ unused s v
  unfolding unused
  unused_seen v e = rw e (append-nil (unused s v))

  -- a turn: v is written behind the others, and stays there where it is unused
  module _ (values : List ℕ) (n at v : ℕ) (a : at ≡ n + length (unused s v)) (e : take at values ≡ s ++ unused s v) (h : at < length values) where
    abbrev Next : ℕ → Type 0
    Next b = (at + (1 - b) ≡ n + length (unused s (v + 1))) × (take (at + (1 - b)) (set values at v) ≡ s ++ unused s (v + 1))

    next_by : (f : Bool) → fresh s v ≡ f → Next (cond f 0 1)
    next_by true q = rw (add-one v, unused-fresh v q) (
      omega (arith, length-append (unused s v) (v ∷ [])),
      rw (add-one at) (take-suc-set values at v h ∙ ap (◌++ (v ∷ [])) e ∙ append_assoc s (unused s v) (v ∷ [])),
    )
    next_by false q = rw (add-one v, unused_seen v q) (
      omega arith,
      ap (λ (k : ℕ). take k (set values at v)) (let z : at + (1 - 1) ≡ at = omega arith in z) ∙ take-set-le at values at v (omega arith) ∙ e,
    )

    pub completing_next : {b : ℕ} → b ≡ cond (fresh s v) 0 1 → Next b
    completing_next q = rw q (next_by (fresh s v) refl)

  -- with length s ≡ n: the list and the unused numbers below w are w numbers
  module _ (n w : ℕ) (l : length s ≡ n) (each : Each w (s ++ unused s w)) where
    total : n + length (unused s w) ≡ w
    total = omega (arith, l, length-append s (unused s w), each.size)

    pub completing_left : (v : ℕ) → v ≤ w → n + length (unused s v) < w → v < w
    completing_left v h b = elim (ℕ_discrete v w) [
      | yes e ↦ absurd (let q : n + length (unused s v) ≡ w = ap (λ (k : ℕ). n + length (unused s k)) e ∙ total in omega arith)
      | no d ↦ omega arith
    ]

    pub completing_end : (values : List ℕ) (at v : ℕ) → at ≡ n + length (unused s v) → take at values ≡ s ++ unused s v → v ≤ w → w ≤ at
        → take w values ≡ s ++ unused s w
    completing_end values at v a e h b =
        let q : w ≡ at = omega (arith, unused-le v w h, total) in
        ap (λ (k : ℕ). take k values) q ∙ e ∙ ap (◌++◌ s) (unused_all v w h (omega (arith, total)))
