-- What a call hands back is what the definitions say of the slot's view. Assumes nothing.
use Prim.Native.Nat.{ℕ, zero, suc}
use mathlib.Core.Path.{◌≡◌, refl, sym, ap, ◌∙◌}
use native.Mathlib.Omega.{arith}
use mathlib.Core.List.{List}
use Rattle.key.specs.Keys.{Key, parse}
use Rattle.key.specs.Kept.{kept, keep, no_key}
use Rattle.key.proofs.Parse.{length-elements}
use Rattle.key.proofs.Filled.{kept-keep}
use Rattle.network_key.specs.Files.{parse_network}
use Rattle.network_key.proofs.Settings.{length-support_of}
use Rattle.field.specs.Numbers.{first_of}
use Rattle.ledger.specs.Slot.{loaded, empty_key, fresh, held_by, Result}
use Rattle.ledger.specs.Loading.{Loading, key_file, network_file, loaded_key}
use Rattle.ledger.specs.Publishing.{Publishing}
use Rattle.ledger.specs.Questions.{Question}
use Rattle.ledger.specs.Calls.{Call, load, publish, ask, drop_key, conditions_of, made, step}
use Rattle.ledger.proofs.StepLaws.{outcome}
use Rattle.ledger.proofs.StepLaws as Step
use Rattle.ledger.proofs.Simulation.{seen, Simulates}
use Rattle.slot.specs.Replies.{state_of, byte_of, view, fresh_slot, Reply, refusal, acceptance, moved, reply_of, handed, outcome_of, code}
use Rattle.slot.specs.Parts.{keyless}
use Rattle.slot.specs.declared.Slot.{Slot}
use Rattle.slot.proofs.ReplyLaws.{reply_refused, reply_accepted}

-- the key that is kept of a file is the file's
pub kept-parse : (file : List ℕ) → kept (keep (parse file)) ≡ parse file
unfolding parse
kept-parse file = kept-keep (parse file) (length-elements file _ _) (length-elements file _ _)

kept_loaded : (f : Loading) → kept (keep (loaded_key f)) ≡ loaded_key f
unfolding loaded_key parse_network
kept_loaded (key_file file) = kept-parse file
kept_loaded (network_file file) = kept-keep (parse_network file) (length-support_of _ _ _) (length-elements file _ _)

-- the fresh slot
pub view-fresh : view fresh_slot ≡ fresh
unfolding view state_of byte_of fresh_slot kept no_key fresh empty_key
view-fresh = refl

-- the slot after an accepted call
view-moved : (s : Slot) (c : Call) → view (moved s c) ≡ (made (view s) c).station
unfolding view state_of byte_of moved made
view-moved s (load f) = ap (λ (k : Key). record { state = loaded; key = k }) (kept_loaded f)
view-moved s (publish p) = refl
view-moved s (ask q) = refl
view-moved s drop_key = view-fresh

-- slot, number and ones
pub record Same (a : Reply) (r : Result) : Type 0 where
  pub station : view a.slot ≡ r.station
  pub number : a.refused ≡ r.number
  pub count : a.ones ≡ r.count

pub same : (s : Slot) (c : Call) → Same (handed s c).reply (step (view s) c)
unfolding handed reply_of refusal acceptance
same s c = go (step (view s) c).number refl
  where
    go : (n : ℕ) → n ≡ (step (view s) c).number → Same (reply_of n s (moved s c) (step (view s) c).count) (step (view s) c)
    go zero e = record { station = view-moved s c ∙ sym (ap (λ (r : Result). r.station) (Step.step-made (view s) c (sym e))); number = e; count = refl }
    go (suc n) e =
        record { station = sym (Step.step_stays (view s) c n (sym e)); number = e; count = sym (Step.step_count (view s) c n (sym e)) }

-- a refusal's reply is the slot as it was, the number, and no ones
pub refused_reply : (s : Slot) (c : Call) (n : ℕ) → (handed s c).reply.refused ≡ suc n → (handed s c).reply ≡ refusal s (suc n)
refused_reply s c n e =
    sym (reply_refused s c (suc n) (sym e ∙ (same s c).number ∙ Step.step-number (view s) c) (λ z. omega arith))

-- an accepted call's reply, where no ones are counted
pub accepted_reply : (s : Slot) (c : Call) → (made (view s) c).count ≡ 0 → (handed s c).reply.refused ≡ 0 → (handed s c).reply ≡ acceptance (moved s c) 0
accepted_reply s c none e =
    let n = sym (same s c).number ∙ e in
    sym (reply_accepted s c (sym (Step.step-number (view s) c) ∙ n) (sym (ap (λ (r : Result). r.count) (Step.step-made (view s) c n) ∙ none)))

-- a call whose conditions ask for nothing but the state
pub state_number : (s : Slot) (c : Call) → conditions_of (held_by (view (keyless s.state))) c ≡ conditions_of (held_by (view s)) c
    → (handed (keyless s.state) c).reply.refused ≡ (handed s c).reply.refused
state_number s c e =
    (same (keyless s.state) c).number
    ∙ Step.step-number (view (keyless s.state)) c
    ∙ ap first_of e
    ∙ sym ((same s c).number ∙ Step.step-number (view s) c)

-- an accepted call's slot
accepted_slot : (s : Slot) (c : Call) → (handed s c).reply.refused ≡ 0 → (handed s c).reply.slot ≡ moved s c
unfolding acceptance
accepted_slot s c e =
    ap (λ (r : Reply). r.slot)
    (sym (reply_accepted s c (sym (Step.step-number (view s) c) ∙ sym (same s c).number ∙ e) refl))

-- publish leaves the key, a question the slot
pub publish_key : (s : Slot) (p : Publishing) → (handed s (publish p)).reply.slot.key ≡ s.key
unfolding moved refusal
publish_key s p = go (handed s (publish p)).reply.refused refl
  where
    go : (n : ℕ) → (handed s (publish p)).reply.refused ≡ n → (handed s (publish p)).reply.slot.key ≡ s.key
    go zero e = ap (λ (t : Slot). t.key) (accepted_slot s (publish p) e)
    go (suc n) e = ap (λ (r : Reply). r.slot.key) (refused_reply s (publish p) n e)

pub question_left : (s : Slot) (q : Question) → (handed s (ask q)).reply.slot ≡ s
unfolding moved refusal
question_left s q = go (handed s (ask q)).reply.refused refl
  where
    go : (n : ℕ) → (handed s (ask q)).reply.refused ≡ n → (handed s (ask q)).reply.slot ≡ s
    go zero e = accepted_slot s (ask q) e
    go (suc n) e = ap (λ (r : Reply). r.slot) (refused_reply s (ask q) n e)

-- so the code's calls are the definitions' calls
pub code_simulates : Simulates code
unfolding seen outcome_of handed view state_of byte_of moved refusal
code_simulates =
    record {
      fresh = view-fresh;
      marked = λ s. refl;
      steps = λ s c. let e = same s c in outcome e.station e.number refl e.count refl refl;
      stays = λ s c n e. ap (λ (r : Reply). r.slot) (refused_reply s c n e);
      marks = λ s p e. accepted_slot s (publish p) e;
      leaves = question_left;
    }
