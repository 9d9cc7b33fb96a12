-- Demand 1: a call answers the number of the first condition that holds, and then changes nothing. Assumes nothing.
use Prim.Native.Nat.{ℕ, suc}
use mathlib.Core.Path.{◌≡◌, refl, sym, ◌∙◌}
use mathlib.Core.Bool.{Bool, true, false, cond}
use mathlib.Core.Logic.{◌⊎◌, inl, inr, ⊎_elim}
use mathlib.Core.List.{List, ◌∷◌}
use Rattle.field.specs.Numbers.{first_of}
use Rattle.field.proofs.Numbers.{first_of_lem, clear_of, numbered}
use Rattle.ledger.specs.Slot.{Slot, Held, is_empty, held_by}
use Rattle.ledger.specs.Calls.{Call, load, publish, ask, drop_key, conditions_of, made, step}
use Rattle.ledger.specs.Systems.{definitions}
use Rattle.ledger.specs.Demands.{workspace_of, Demand1}
use Rattle.ledger.proofs.Forms.{loading_numbered, publishing_numbered, question_numbered, publishing_free, freed_needed}
use Rattle.ledger.proofs.StepLaws.{step-number, step_stays, step_output, step_count, step-answer, step_free}

-- no call has a condition with the number 0
calls_numbered : (h : Held) (c : Call) → numbered (conditions_of h c) ≡ true
unfolding numbered conditions_of
calls_numbered h (load f) = loading_numbered f
calls_numbered h (publish p) = publishing_numbered h p
calls_numbered h (ask q) = question_numbered h q
calls_numbered h drop_key = refl

-- a refusal by another number than 23 leaves the workspace as it was
refused_first : (e : Bool) (cs : List (Bool × ℕ)) (w n : ℕ) → first_of ((e, 21) ∷ cs) ≡ suc n → (first_of cs ≡ suc n → w ≡ 0) → cond e 0 w ≡ 0
unfolding first_of
refused_first true cs w n e f = refl
refused_first false cs w n e f = f e

refused_work : (s : Slot) (c : Call) (n : ℕ) → (step s c).number ≡ suc n → (suc n ≡ 23 → ⊥) → (step s c).free ≡ 0
unfolding made held_by conditions_of
refused_work s (load f) n e other = step_free s (load f)
refused_work s (publish p) n e other =
    step_free s (publish p)
    ∙ refused_first (is_empty s.state) _ _ n (sym (step-number s (publish p)) ∙ e) (λ q. publishing_free (held_by s) p n refl q other)
refused_work s (ask q) n e other = step_free s (ask q)
refused_work s drop_key n e other = step_free s drop_key

-- no byte of the workspace is free, or those that are needed
none_first : (e : Bool) (w v : ℕ) → (w ≡ 0) ⊎ (w ≡ v) → (cond e 0 w ≡ 0) ⊎ (cond e 0 w ≡ v)
none_first true w v p = inl refl
none_first false w v p = p

made_workspace : (s : Slot) (c : Call) → ((made s c).free ≡ 0) ⊎ ((made s c).free ≡ workspace_of s.key c)
unfolding made workspace_of
made_workspace s (load f) = inl refl
made_workspace s (publish p) = none_first (is_empty s.state) _ _ (freed_needed s.key p)
made_workspace s (ask q) = inl refl
made_workspace s drop_key = inl refl

pub demand_1 : Demand1 definitions
demand_1 s c =
    record {
      number = λ n e. first_of_lem (conditions_of (held_by s) c) n (sym (step-number s c) ∙ e);
      accepts = λ e. clear_of (conditions_of (held_by s) c) (calls_numbered (held_by s) c) (sym (step-number s c) ∙ e);
      station = step_stays s c;
      ones = step_count s c;
      answer = step-answer s c;
      output = step_output s c;
      work = refused_work s c;
      workspace = ⊎_elim (λ z. inl (step_free s c ∙ z)) (λ z. inr (step_free s c ∙ z)) (made_workspace s c);
    }
