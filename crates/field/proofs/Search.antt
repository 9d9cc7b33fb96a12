-- What a search below n finds: a number that passes, where there is one; else 0. Assumes nothing.
use mathlib.Core.Path.{◌≡◌, refl, sym, ap, ◌∙◌}
use mathlib.Core.Logic.{⊎_elim}
use mathlib.Core.Bool.{Bool, true, false, true≢false, cond}
use Prim.Native.Nat.{ℕ, zero, suc, ◌<◌}
use native.Mathlib.Nat.{eq-or-lt_of_le, le_of_suc-le-suc, not-suc-le-zero}
use native.Mathlib.Omega.{arith}
use Rattle.field.specs.Field.{last_below}

module _ (p : ℕ → Bool) where
  -- one step: n itself, or what is found below it
  step : (P : ℕ → Type 0) (n : ℕ) → (p n ≡ true → P n) → (p n ≡ false → P (last_below n p)) → P (last_below (suc n) p)
  unfolding last_below
  step P n here below = go (p n) refl
    where
      go : (b : Bool) → p n ≡ b → P (cond (p n) n (last_below n p))
      go true e = rw e (here e)
      go false e = rw e (below e)

  pub last_below_passes : (n i : ℕ) → i < n → p i ≡ true → p (last_below n p) ≡ true
  last_below_passes zero i h t = absurd (not-suc-le-zero h)
  last_below_passes (suc n) i h t =
      step (λ x. p x ≡ true) n (λ e. e)
      (λ e. last_below_passes n i (⊎_elim (λ q. absurd (true≢false (sym t ∙ ap p q ∙ e))) (λ l. l) (eq-or-lt_of_le (le_of_suc-le-suc h))) t)

  pub last_below-lt : (n : ℕ) → last_below (suc n) p < suc n
  unfolding last_below
  last_below-lt zero = step (λ x. x < 1) zero (λ e. omega arith) (λ e. omega arith)
  last_below-lt (suc n) = step (λ x. x < suc (suc n)) (suc n) (λ e. omega arith) (λ e. let l = last_below-lt n in omega arith)

  pub last_below_none : (n : ℕ) → ((i : ℕ) → i < n → p i ≡ false) → last_below n p ≡ 0
  unfolding last_below
  last_below_none zero h = refl
  last_below_none (suc n) h = rw (h n (omega arith)) (last_below_none n (λ i l. h i (omega arith)))
