-- What a call hands back, from the slot's state and the lower call's answer. Assumes nothing.
use Prim.Native.Nat.{ℕ, zero, suc}
use mathlib.Core.Path.{◌≡◌, refl, sym, ap, ◌∙◌}
use mathlib.Core.Bool.{Bool, true, false, not, cond}
use mathlib.Core.List.{List}
use native.Mathlib.Omega.{arith}
use lib.Dec.{eqb}
use borrow.Author.Tests.{ne_eqb}
use Rattle.field.specs.Numbers.{first_of}
use Rattle.ledger.specs.Slot.{is_empty, held_by, Result}
use Rattle.ledger.specs.Loading.{loading_conditions}
use Rattle.ledger.specs.Publishing.{publishing_conditions}
use Rattle.ledger.specs.Questions.{question_conditions}
use Rattle.ledger.specs.Calls.{Call, load, publish, ask, drop_key, conditions_of, output_of, no_answer, made, step}
use Rattle.ledger.proofs.StepLaws.{call_number, step-number, step-made, step_output, step-answer}
use Rattle.slot.specs.Replies.{state_of, view, refusal, acceptance, moved, reply_of, handed}
use Rattle.slot.specs.declared.Slot.{Slot}

reply_number : (n : ℕ) (s next : Slot) (w : ℕ) → (reply_of n s next w).refused ≡ n
unfolding reply_of refusal acceptance
reply_number zero s next w = refl
reply_number (suc n) s next w = refl

-- A call is refused by the first condition that holds, and then changes nothing; else it goes on.
module _ (s : Slot) (c : Call) where
  handed-number : (handed s c).reply.refused ≡ call_number (view s) c
  unfolding handed
  handed-number = reply_number _ s (moved s c) _ ∙ step-number (view s) c

  pub reply_refused : (x : ℕ) → x ≡ call_number (view s) c → (x ≡ 0 → ⊥) → refusal s x ≡ (handed s c).reply
  unfolding handed reply_of
  reply_refused zero e h = absurd (h refl)
  reply_refused (suc x) e h = ap (λ (i : ℕ). reply_of i s (moved s c) (step (view s) c).count) (e ∙ sym (step-number (view s) c))

  pub reply_accepted : {w : ℕ} → call_number (view s) c ≡ 0 → w ≡ (step (view s) c).count → acceptance (moved s c) w ≡ (handed s c).reply
  unfolding handed reply_of
  reply_accepted {w} z e =
      ap (acceptance (moved s c)) e ∙ ap (λ (i : ℕ). reply_of i s (moved s c) (step (view s) c).count) (sym (step-number (view s) c ∙ z))

  -- a part that stays, or is zeros, with a number
  part_refused : (f : Result → List ℕ) (l : List ℕ) → ((n : ℕ) → (step (view s) c).number ≡ suc n → f (step (view s) c) ≡ l)
      → (x : ℕ) → x ≡ call_number (view s) c → (x ≡ 0 → ⊥) → l ≡ f (step (view s) c)
  part_refused f l h zero e n = absurd (n refl)
  part_refused f l h (suc x) e n = sym (h x (step-number (view s) c ∙ sym e))

-- the first condition, on the state alone
unfoldable pub stop : Slot → Call → Bool × ℕ
stop s (load f) = (not (is_empty (state_of s.state)), 22)
stop s (publish p) = (is_empty (state_of s.state), 21)
stop s (ask q) = (is_empty (state_of s.state), 21)
stop s drop_key = (is_empty (state_of s.state), 21)

-- the number by the others: that of the lower call
unfoldable pub lower : Slot → Call → ℕ
lower s (load f) = first_of (loading_conditions f)
lower s (publish p) = first_of (publishing_conditions (held_by (view s)) p)
lower s (ask q) = first_of (question_conditions (held_by (view s)) q)
lower s drop_key = 0

number_cond : (s : Slot) (c : Call) → call_number (view s) c ≡ cond (stop s c).0 (stop s c).1 (lower s c)
unfolding stop lower view held_by first_of conditions_of
number_cond s (load f) = refl
number_cond s (publish p) = refl
number_cond s (ask q) = refl
number_cond s drop_key = refl

stop_numbered : (s : Slot) (c : Call) → (stop s c).1 ≡ 0 → ⊥
unfolding stop
stop_numbered s (load f) e = omega arith
stop_numbered s (publish p) e = omega arith
stop_numbered s (ask q) e = omega arith
stop_numbered s drop_key e = omega arith

module _ (s : Slot) (c : Call) where
  pub number_stop : (stop s c).0 ≡ true → (stop s c).1 ≡ call_number (view s) c
  number_stop h = sym (number_cond s c ∙ ap (λ (b : Bool). cond b (stop s c).1 (lower s c)) h)

  number_lower : (stop s c).0 ≡ false → call_number (view s) c ≡ lower s c
  number_lower h = number_cond s c ∙ ap (λ (b : Bool). cond b (stop s c).1 (lower s c)) h

  pub stopped_number : (stop s c).0 ≡ true → (stop s c).1 ≡ (handed s c).reply.refused
  stopped_number h = number_stop h ∙ sym (handed-number s c)

  pub lower_number : (stop s c).0 ≡ false → lower s c ≡ (handed s c).reply.refused
  lower_number h = sym (handed-number s c ∙ number_lower h)

  -- accepted: so by the lower call
  pub lower_none : (handed s c).reply.refused ≡ 0 → lower s c ≡ 0
  lower_none z = go (stop s c).0 refl
    where
      go : (b : Bool) → (stop s c).0 ≡ b → lower s c ≡ 0
      go true h = absurd (stop_numbered s c (stopped_number h ∙ z))
      go false h = lower_number h ∙ z

  -- refused by the state: nothing changes
  pub stopped : (stop s c).0 ≡ true → (refusal s (stop s c).1 ≡ (handed s c).reply) × (output_of c ≡ (handed s c).output) × (no_answer c ≡ (handed s c).answer)
  unfolding handed
  stopped h =
      let e = number_stop h in
      let n = stop_numbered s c in (
        reply_refused s c _ e n,
        part_refused s c (λ r. r.output) _ (step_output (view s) c) _ e n,
        part_refused s c (λ r. r.answer) _ (step-answer (view s) c) _ e n,
      )

-- the state lets the call through: the lower call's number decides
module _ (s : Slot) (c : Call) (passes : (stop s c).0 ≡ false) where
  pub lower_refused : (x : ℕ) → x ≡ lower s c → (x ≡ 0 → ⊥) → refusal s x ≡ (handed s c).reply
  lower_refused x e h = reply_refused s c x (e ∙ sym (number_lower s c passes)) h

  lower_made : lower s c ≡ 0 → step (view s) c ≡ made (view s) c
  lower_made z = step-made (view s) c (step-number (view s) c ∙ number_lower s c passes ∙ z)

  pub lower_accepted : lower s c ≡ 0 → acceptance (moved s c) (made (view s) c).count ≡ (handed s c).reply
  lower_accepted z = reply_accepted s c (number_lower s c passes ∙ z) (sym (ap (λ (r : Result). r.count) (lower_made z)))

  lower_part : (f : Result → List ℕ) (l : List ℕ) → ((n : ℕ) → (step (view s) c).number ≡ suc n → f (step (view s) c) ≡ l)
      → cond (eqb (lower s c) 0) (f (made (view s) c)) l ≡ f (step (view s) c)
  lower_part f l h = go (lower s c) refl
    where
      go : (n : ℕ) → n ≡ lower s c → cond (eqb n 0) (f (made (view s) c)) l ≡ f (step (view s) c)
      go zero e = sym (ap f (lower_made (sym e)))
      go (suc n) e =
          ap (λ (b : Bool). cond b (f (made (view s) c)) l) (ne_eqb (suc n) 0 (λ z. omega arith))
          ∙ part_refused s c f l h (suc n) (e ∙ sym (number_lower s c passes)) (λ z. omega arith)

  -- the output buffer, and what the form answers besides
  pub lower_output : cond (eqb (lower s c) 0) (made (view s) c).output (output_of c) ≡ (handed s c).output
  unfolding handed
  lower_output = lower_part (λ r. r.output) (output_of c) (step_output (view s) c)

  pub lower_answer : cond (eqb (lower s c) 0) (made (view s) c).answer (no_answer c) ≡ (handed s c).answer
  unfolding handed
  lower_answer = lower_part (λ r. r.answer) (no_answer c) (step-answer (view s) c)
