-- The answer that follows from the number of a refusal, what it says of that number, and whether a number is an element. Assumes nothing.
use mathlib.Core.Path.{◌≡◌, refl, ap, ◌∙◌}
use mathlib.Core.Bool.{true, false}
use Prim.Native.Nat.{ℕ, zero, suc, ◌≤◌, ◌<◌, ◌^◌}
use native.Mathlib.Omega.{arith}
use borrow.Author.Tests.{lt-ltb, le-ltb, ltb-true}
use Rattle.field.specs.Field.{is_element}
use Rattle.field.specs.Verdicts.{verdict_of, number_of}
use Rattle.field.specs.Answers.{answer}
use Rattle.field.specs.declared.Verdict.{Verdict}
use Rattle.field.specs.declared.Verdict.TheVariants as verdicts
use Rattle.field.specs.declared.Answer.TheVariants.{Value, Refused}
use Rattle.field.proofs.Verdicts.{verdict_refused, verdict_number}

-- a check's verdict r, of the number q, taken apart
pub refused : (q v : ℕ) {r : Verdict} {x n : ℕ} → r ≡ verdict_of q → r ≡ verdicts.Refused x → n ≡ number_of r → Refused n ≡ answer q v
unfolding answer
refused zero v e h k = absurd (verdict_refused 0 e h refl)
refused (suc q) v e h k = ap Refused (k ∙ verdict_number (suc q) e)

pub allowed : (q : ℕ) {u v : ℕ} → q ≡ 0 → u ≡ v → Value u ≡ answer q v
unfolding answer
allowed zero z h = ap Value h
allowed (suc q) z h = absurd (omega arith)

pub answer-value : (q : ℕ) {v x : ℕ} → answer q v ≡ Value x → (q ≡ 0) × (x ≡ v)
unfolding answer
answer-value zero e = (refl, cc)
answer-value (suc q) e = let z : ◌≡◌ {A = ℕ} 0 1 = cc in absurd (omega arith)

pub answer_refused : (q v : ℕ) {x : ℕ} → answer q v ≡ Refused x → q ≡ x
unfolding answer
answer_refused zero v e = let z : ◌≡◌ {A = ℕ} 0 1 = cc in absurd (omega arith)
answer_refused (suc q) v e = cc

module _ (m a : ℕ) where
  pub is_element_lem : a < 2 ^ m → is_element m a ≡ true
  unfolding is_element
  is_element_lem h = lt-ltb a (2 ^ m) h

  pub no_element : 2 ^ m ≤ a → is_element m a ≡ false
  unfolding is_element
  no_element h = le-ltb a (2 ^ m) h

  pub element_below : is_element m a ≡ true → a < 2 ^ m
  unfolding is_element
  element_below e = ltb-true a (2 ^ m) e
