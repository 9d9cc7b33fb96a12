-- What a call hands back: its number, and the slot, output, answer and workspace with and without a number. Assumes nothing.
use Prim.Native.Nat.{ℕ, zero, suc}
use mathlib.Core.Path.{◌≡◌, refl, sym, ap, ◌∙◌}
use mathlib.Core.List.{List}
use Rattle.field.specs.Numbers.{first_of}
use Rattle.ledger.specs.Slot.{loaded, published, Slot, fresh, held_by, Outcome, Result}
use Rattle.ledger.specs.Loading.{Loading, loaded_key}
use Rattle.ledger.specs.Publishing.{Publishing}
use Rattle.ledger.specs.Questions.{Question}
use Rattle.ledger.specs.Calls.{Call, load, publish, ask, drop_key, conditions_of, output_of, no_answer, made, unless, step}

-- what is handed back, part by part
pub outcome : {S : Type 0} {s t : S} {n k w v f g : ℕ} {o p a b : List ℕ} → s ≡ t → n ≡ k → o ≡ p → w ≡ v → a ≡ b → f ≡ g
    → ◌≡◌ {A = Outcome S} (record { station = s; number = n; output = o; count = w; answer = a; free = f }) (record { station = t; number = k; output = p; count = v; answer = b; free = g })
outcome a b c d e f = rw (a, b, c, d, e, f)

-- a call's number is the first of its conditions that holds
abbrev pub call_number : Slot → Call → ℕ
call_number s c = first_of (conditions_of (held_by s) c)

-- refused: all but the number is as it was
abbrev pub refused_by : ℕ → Slot → Call → Result
refused_by n s c = record { station = s; number = n; output = output_of c; count = 0; answer = no_answer c; free = (made s c).free }

made-number : (s : Slot) (c : Call) → (made s c).number ≡ 0
unfolding made
made-number s (load f) = refl
made-number s (publish p) = refl
made-number s (ask q) = refl
made-number s drop_key = refl

module _ (s : Slot) (c : Call) where
  accepted-at : (n : ℕ) → n ≡ 0 → unless n s c (made s c) ≡ made s c
  unfolding unless
  accepted-at n e = ap (λ (i : ℕ). unless i s c (made s c)) e

  refused_at : (n i : ℕ) → n ≡ suc i → unless n s c (made s c) ≡ refused_by (suc i) s c
  unfolding unless
  refused_at n i e = ap (λ (j : ℕ). unless j s c (made s c)) e

  pub step-number : (step s c).number ≡ call_number s c
  unfolding step unless
  step-number = go (call_number s c)
    where
      go : (n : ℕ) → (unless n s c (made s c)).number ≡ n
      go zero = made-number s c
      go (suc n) = refl

  -- accepted: what it made
  pub step-made : (step s c).number ≡ 0 → step s c ≡ made s c
  unfolding step
  step-made e = accepted-at (call_number s c) (sym step-number ∙ e)

  -- refused: slot and output stay, no ones are counted, and the answer is zeros
  pub step_refused : (n : ℕ) → (step s c).number ≡ suc n → step s c ≡ refused_by (suc n) s c
  unfolding step
  step_refused n e = refused_at (call_number s c) n (sym step-number ∙ e)

  pub step_stays : (n : ℕ) → (step s c).number ≡ suc n → (step s c).station ≡ s
  step_stays n e = ap (λ (r : Result). r.station) (step_refused n e)

  pub step_output : (n : ℕ) → (step s c).number ≡ suc n → (step s c).output ≡ output_of c
  step_output n e = ap (λ (r : Result). r.output) (step_refused n e)

  pub step_count : (n : ℕ) → (step s c).number ≡ suc n → (step s c).count ≡ 0
  step_count n e = ap (λ (r : Result). r.count) (step_refused n e)

  pub step-answer : (n : ℕ) → (step s c).number ≡ suc n → (step s c).answer ≡ no_answer c
  step-answer n e = ap (λ (r : Result). r.answer) (step_refused n e)

  -- accepted or refused: the workspace
  pub step_free : (step s c).free ≡ (made s c).free
  unfolding step unless
  step_free = go (call_number s c)
    where
      go : (n : ℕ) → (unless n s c (made s c)).free ≡ (made s c).free
      go zero = refl
      go (suc n) = refl

-- Each kind: load keeps its key, publish marks the slot, drop leaves a fresh one, a question leaves it as it is.
pub load_station : (s : Slot) (f : Loading) → (step s (load f)).number ≡ 0 → (step s (load f)).station ≡ record { state = loaded; key = loaded_key f }
unfolding made
load_station s f e = ap (λ (r : Result). r.station) (step-made s (load f) e)

pub publish_station : (s : Slot) (p : Publishing) → (step s (publish p)).number ≡ 0 → (step s (publish p)).station ≡ record { state = published; key = s.key }
unfolding made
publish_station s p e = ap (λ (r : Result). r.station) (step-made s (publish p) e)

pub drop_station : (s : Slot) → (step s drop_key).number ≡ 0 → (step s drop_key).station ≡ fresh
unfolding made
drop_station s e = ap (λ (r : Result). r.station) (step-made s drop_key e)

pub question_station : (s : Slot) (q : Question) → (step s (ask q)).station ≡ s
unfolding step made unless
question_station s q = go (call_number s (ask q))
  where
    go : (n : ℕ) → (unless n s (ask q) (made s (ask q))).station ≡ s
    go zero = refl
    go (suc n) = refl
