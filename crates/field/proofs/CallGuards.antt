-- The number of a refusal, by the tests of the code. Assumes nothing.
use mathlib.Core.Path.{◌≡◌, refl, ap, ◌∙◌}
use mathlib.Core.Bool.{Bool, true, false, not, cond, ◌&&◌}
use mathlib.Core.List.{List, [], ◌∷◌}
use Prim.Native.Nat.{ℕ, ◌≤◌, ◌<◌, ◌^◌}
use native.Mathlib.Omega.{arith}
use native.Mathlib.Nat.{le_of_suc-le-suc}
use lib.Dec.{eqb}
use lib.Pow.{pow_mono}
use Rattle.bits.specs.Bits.{every}
use Rattle.field.specs.Numbers.{first_of}
use Rattle.field.specs.Field.{is_width, is_element, inv}
use Rattle.field.specs.Answers.{answer, inverse_of}
use Rattle.field.proofs.Table.{Width, width_narrow}
use Rattle.field.proofs.Guards.{is_element_lem, no_element, element_below}
use Rattle.field.proofs.Units.{element_inverse}
use Rattle.field.specs.Answers.{elements_number, invert_number, invert_of}

module _ (m : ℕ) where
  pub number_no_width : (xs : List ℕ) → is_width m ≡ false → elements_number m xs ≡ 1
  unfolding elements_number first_of
  number_no_width xs n = rw n

  pub number_no_element : (a : ℕ) → Width m → 2 ^ m ≤ a → elements_number m (a ∷ []) ≡ 4
  unfolding elements_number first_of every
  number_no_element a w h = rw (w, no_element m a h)

  pub number_element : (a : ℕ) → Width m → a < 2 ^ m → elements_number m (a ∷ []) ≡ 0
  unfolding elements_number first_of every
  number_element a w h = rw (w, is_element_lem m a h)

  -- an element has 16 digits
  element_lt : {a : ℕ} → Width m → is_element m a ≡ true → a < 65536
  element_lt {a} w e = omega (arith, element_below m a e, pow_mono (le_of_suc-le-suc (width_narrow m w)))

-- the number, of a width and elements that are right or not
abbrev number : Bool → Bool → ℕ
number w e = cond (not w) 1 (cond (not e) 4 0)

module _ (m x : ℕ) (xs : List ℕ) where
  -- an element is refused: so are all
  pub first_refused : (elements_number m (x ∷ []) ≡ 0 → ⊥) → elements_number m (x ∷ []) ≡ elements_number m (x ∷ xs)
  unfolding elements_number first_of every
  first_refused = go (is_width m) (is_element m x) (every (is_element m) xs)
    where
      go : (w e r : Bool) → (number w (e && true) ≡ 0 → ⊥) → number w (e && true) ≡ number w (e && r)
      go false e r n = refl
      go true false r n = refl
      go true true r n = absurd (n refl)

  -- it is not: the others decide
  pub first_allowed : elements_number m (x ∷ []) ≡ 0 → elements_number m xs ≡ elements_number m (x ∷ xs)
  unfolding elements_number first_of every
  first_allowed = go (is_width m) (is_element m x) (every (is_element m) xs)
    where
      go : (w e r : Bool) → number w (e && true) ≡ 0 → number w r ≡ number w (e && r)
      go false e r z = absurd (omega arith)
      go true false r z = absurd (omega arith)
      go true true r z = refl

  -- accepted: the width and every element are right
  pub accepted : elements_number m (x ∷ xs) ≡ 0 → (x < 65536) × (elements_number m xs ≡ 0)
  unfolding elements_number first_of every
  accepted = go (is_width m) (is_element m x) (every (is_element m) xs) refl refl
    where
      go : (w e r : Bool) → is_width m ≡ w → is_element m x ≡ e → number w (e && r) ≡ 0 → (x < 65536) × (number w r ≡ 0)
      go false e r p q z = absurd (omega arith)
      go true false r p q z = absurd (omega arith)
      go true true r p q z = (element_lt m p q, z)

-- the public inverse: an element's own refusal, or else the inner answer, since the low digits of an element are its own
module _ (m a : ℕ) where
  number_lt : elements_number m (a ∷ []) ≡ 0 → a < 2 ^ m
  unfolding elements_number first_of every
  number_lt = go (is_width m) (is_element m a) refl
    where
      go : (w e : Bool) → is_element m a ≡ e → number w (e && true) ≡ 0 → a < 2 ^ m
      go false e q z = absurd (omega arith)
      go true false q z = absurd (omega arith)
      go true true q z = element_below m a q

  pub invert_refused : (elements_number m (a ∷ []) ≡ 0 → ⊥) → elements_number m (a ∷ []) ≡ invert_number m a
  unfolding elements_number invert_number first_of every
  invert_refused = go (is_width m) (is_element m a) (eqb a 0)
    where
      go : (w e z : Bool) → (number w (e && true) ≡ 0 → ⊥) → number w (e && true) ≡ first_of ((not w, 1) ∷ (not e, 4) ∷ (z, 32) ∷ [])
      go false e z n = refl
      go true false z n = refl
      go true true z n = absurd (n refl)

  pub invert_allowed : elements_number m (a ∷ []) ≡ 0 → inverse_of m a ≡ invert_of m a
  unfolding elements_number invert_of invert_number first_of every
  invert_allowed h =
      element_inverse m a (number_lt h)
      ∙ ap (λ (q : ℕ). answer q (inv m a)) (go (is_width m) (is_element m a) (eqb a 0) h)
    where
      go : (w e z : Bool) → number w (e && true) ≡ 0
          → first_of ((not w, 1) ∷ (z, 32) ∷ []) ≡ first_of ((not w, 1) ∷ (not e, 4) ∷ (z, 32) ∷ [])
      go false e z k = absurd (omega arith)
      go true false z k = absurd (omega arith)
      go true true z k = refl
