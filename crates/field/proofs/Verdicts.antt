-- What a verdict says of the number that it was made from. Assumes nothing.
use Prim.Native.Nat.{ℕ, zero, suc}
use mathlib.Core.Path.{◌≡◌, refl, sym, ap, ◌∙◌}
use native.Mathlib.Omega.{arith}
use Rattle.field.specs.Verdicts.{verdict_of, number_of}
use Rattle.field.specs.declared.Verdict.{Verdict}
use Rattle.field.specs.declared.Verdict.TheVariants.{Accepted, Refused}

pub number_verdict : (q : ℕ) → number_of (verdict_of q) ≡ q
unfolding number_of verdict_of
number_verdict zero = refl
number_verdict (suc q) = refl

-- a check's answer, by the number q of its first condition that holds
pub refuses : {x q : ℕ} → suc x ≡ q → Refused (suc x) ≡ verdict_of q
unfolding verdict_of
refuses e = ap verdict_of e

pub accepts : {q : ℕ} → 0 ≡ q → Accepted ≡ verdict_of q
unfolding verdict_of
accepts e = ap verdict_of e

-- what a callee's verdict v, of the number q, says once it is taken apart
pub verdict_accepted : (q : ℕ) {v : Verdict} → v ≡ verdict_of q → v ≡ Accepted → q ≡ 0
unfolding verdict_of
verdict_accepted zero e h = refl
verdict_accepted (suc q) e h = let z : ◌≡◌ {A = ℕ} 0 1 = cc in absurd (omega arith)

pub verdict_refused : (q : ℕ) {v : Verdict} {x : ℕ} → v ≡ verdict_of q → v ≡ Refused x → q ≡ 0 → ⊥
unfolding verdict_of
verdict_refused zero e h z = let d : ◌≡◌ {A = ℕ} 0 1 = cc in omega arith
verdict_refused (suc q) e h z = omega arith

pub number_refused : {v : Verdict} {x : ℕ} → v ≡ Refused x → number_of v ≡ x
unfolding number_of
number_refused e = ap number_of e

pub verdict_number : (q : ℕ) {v : Verdict} → v ≡ verdict_of q → number_of v ≡ q
verdict_number q e = ap number_of e ∙ number_verdict q

-- the number n of a refusal is q, and not 0
pub verdict_taken : (q : ℕ) {v : Verdict} {x n : ℕ} → v ≡ verdict_of q → v ≡ Refused x → n ≡ number_of v → (n ≡ q) × (n ≡ 0 → ⊥)
verdict_taken q e h k = let t = k ∙ verdict_number q e in (t, λ z. verdict_refused q e h (sym t ∙ z))
