-- The inverse that is answered is the only element whose product with a is 1, and 32 says that there is none. Assumes nothing.
use mathlib.Core.Path.{◌≡◌, refl, sym, ap, ◌∙◌}
use mathlib.Core.Bool.{Bool, true, false, not}
use mathlib.Core.List.{[], ◌∷◌}
use Prim.Native.Nat.{ℕ, ◌^◌, ◌<◌}
use native.Mathlib.Nat.{pos_of_ne-zero}
use native.Mathlib.Omega.{arith}
use borrow.Author.Tests.{eqb-true, eqb-false}
use lib.Dec.{eqb}
use Rattle.field.specs.Numbers.{first_of}
use Rattle.field.specs.Field.{is_width, is_element, mul, inv}
use Rattle.field.specs.declared.Answer.TheVariants.{Value, Refused}
use Rattle.field.proofs.Table.{Width}
use Rattle.field.proofs.Laws.{zero-mul, mul-inv, inv-lt, inv_unique}
use Rattle.field.proofs.Guards.{answer-value, answer_refused, element_below}
use Rattle.field.specs.Answers.{invert_number, invert_of}

module _ (m a : ℕ) where
  -- what a value says of the three conditions
  record Inverted (x : ℕ) : Type 0 where
    width : Width m
    element : a < 2 ^ m
    nonzero : a ≡ 0 → ⊥
    value : x ≡ inv m a

  inverted : {x : ℕ} → invert_of m a ≡ Value x → Inverted x
  unfolding invert_of invert_number first_of
  inverted {x} h =
      let r = answer-value (invert_number m a) h in go (is_width m) (is_element m a) (eqb a 0) refl refl refl r.0 r.1
    where
      go : (w e z : Bool) → is_width m ≡ w → is_element m a ≡ e → eqb a 0 ≡ z → first_of ((not w, 1) ∷ (not e, 4) ∷ (z, 32) ∷ []) ≡ 0
          → x ≡ inv m a → Inverted x
      go false e z p q r k v = absurd (omega arith)
      go true false z p q r k v = absurd (omega arith)
      go true true true p q r k v = absurd (omega arith)
      go true true false p q r k v = record { width = p; element = element_below m a q; nonzero = eqb-false a 0 r; value = v }

  pub invert_element : {x : ℕ} → invert_of m a ≡ Value x → x < 2 ^ m
  invert_element h = rw (inverted h).value (inv-lt m a)

  pub invert_product : {x : ℕ} → invert_of m a ≡ Value x → mul m a x ≡ 1
  invert_product h = let i = inverted h in ap (mul m a) i.value ∙ mul-inv m i.width i.element (pos_of_ne-zero i.nonzero)

  pub invert_only : {x : ℕ} → invert_of m a ≡ Value x → (b : ℕ) → b < 2 ^ m → mul m a b ≡ 1 → b ≡ x
  invert_only h b l e = let i = inverted h in inv_unique m a b l e ∙ sym i.value

  pub invert_none : invert_of m a ≡ Refused 32 → (b : ℕ) → mul m a b ≡ 1 → ⊥
  unfolding invert_of invert_number first_of
  invert_none h = go (is_width m) (is_element m a) (eqb a 0) refl (answer_refused (invert_number m a) (inv m a) h)
    where
      go : (w e z : Bool) → eqb a 0 ≡ z → first_of ((not w, 1) ∷ (not e, 4) ∷ (z, 32) ∷ []) ≡ 32 → (b : ℕ) → mul m a b ≡ 1 → ⊥
      go false e z r h b k = omega arith
      go true false z r h b k = omega arith
      go true true true r h b k =
          let o : mul m a b ≡ 0 = ap (λ (x : ℕ). mul m x b) (eqb-true a 0 r) ∙ zero-mul m b in omega arith
      go true true false r h b k = omega arith
