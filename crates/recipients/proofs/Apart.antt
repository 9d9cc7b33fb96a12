-- Two recipients are apart: a slot, and the answers to the calls that name it, are those of that slot alone. Assumes nothing.
use mathlib.Core.Path.{◌≡◌, refl, sym, ap, ap₂, ◌∙◌}
use mathlib.Core.Bool.{true, false, true≢false, not}
use mathlib.Core.List.{List, [], ◌∷◌, map}
use Rattle.ledger.specs.Slot.{Outcome}
use Rattle.ledger.specs.Calls.{Call, run}
use Rattle.ledger.specs.Ledger.{ledger_after}
use Rattle.ledger.specs.Demands.{key_held}
use Rattle.recipients.specs.Names.{Name, NamedCall, naming, names, keep, leave_out, calls_of}
use Rattle.recipients.specs.Recipients.{unknown, Recipients}
use Rattle.recipients.specs.Apart.{Answer, answer_of, transcript, transcript_of, Apart}
use Rattle.recipients.proofs.NameLaws.{by_bool, the_other, names_one, names_not, Addressed, one, nobody, addressed, keep_yes, keep_no, calls_named, calls_other, calls_left, calls_none}
use Rattle.recipients.proofs.Slotted.{Slotted, named_slot, named-answer, nobody_call, other_slot}

abbrev entries_of : List (NamedCall × Answer) → List (Call × Answer)
entries_of entries = map (λ (e : NamedCall × Answer). (e.0.call, e.1)) entries

module _ (r : Recipients) (p : Slotted r) where
  -- the slot of x after a list of calls, and the answers to the calls that name x
  pub run-named : (x : Name) (s : r.Stations) (calls : List NamedCall)
      → r.slot x (run r.call s calls) ≡ run r.slots.call (r.slot x s) (calls_of x calls)
  unfolding run keep
  run-named x s [] = refl
  run-named x s (c ∷ cs) =
      run-named x (r.call s c).station cs
      ∙ by_bool (names x c)
      (λ e. ap (λ t. run r.slots.call t (calls_of x cs)) (named_slot r p s c x e) ∙ ap (run r.slots.call (r.slot x s)) (sym (calls_named x c cs e)))
      (λ e. ap₂ (run r.slots.call) (other_slot r p x s c e) (sym (calls_other x c cs e)))

  pub transcript-named : (x : Name) (s : r.Stations) (calls : List NamedCall)
      → transcript_of x (transcript r.call s calls) ≡ transcript r.slots.call (r.slot x s) (calls_of x calls)
  unfolding transcript keep
  transcript-named x s [] = refl
  transcript-named x s (c ∷ cs) =
      let others = transcript r.call (r.call s c).station cs in
      let ih = transcript-named x (r.call s c).station cs in
      by_bool (names x c)
      (λ e.
      ap entries_of (keep_yes (λ (a : NamedCall × Answer). names x a.0) (c, answer_of (r.call s c)) others e)
      ∙ ap₂ (λ a rest. (c.call, a) ∷ rest) (named-answer r p s c x e)
      (ih ∙ ap (λ t. transcript r.slots.call t (calls_of x cs)) (named_slot r p s c x e))
      ∙ ap (transcript r.slots.call (r.slot x s)) (sym (calls_named x c cs e)))
      (λ e.
      ap entries_of (keep_no (λ (a : NamedCall × Answer). names x a.0) (c, answer_of (r.call s c)) others e)
      ∙ ih
      ∙ ap₂ (transcript r.slots.call) (other_slot r p x s c e) (sym (calls_other x c cs e)))

  -- from stations with the same slot of y: that slot after the same calls,
  same_after : (y : Name) (s t : r.Stations) → r.slot y s ≡ r.slot y t → (calls : List NamedCall)
      → r.slot y (run r.call s calls) ≡ r.slot y (run r.call t calls)
  same_after y s t q calls =
      run-named y s calls ∙ ap (λ u. run r.slots.call u (calls_of y calls)) q ∙ sym (run-named y t calls)

  -- and the answer to a call that does not name the other recipient
  same_answer : (x y : Name) → (x ≡ y → ⊥) → (s t : r.Stations) → r.slot y s ≡ r.slot y t → (c : NamedCall) → names x c ≡ false
      → answer_of (r.call s c) ≡ answer_of (r.call t c)
  unfolding answer_of unknown
  same_answer x y h s t q c = go (addressed c)
    where
      go : {c : NamedCall} → Addressed c → names x c ≡ false → answer_of (r.call s c) ≡ answer_of (r.call t c)
      go (one z d) e =
          let o : z ≡ y = the_other x y z h (λ i. true≢false (sym (names_one x d) ∙ ap (λ (w : Name). names x (naming w d)) i ∙ e)) in
          let n : names y (naming z d) ≡ true = ap (λ (w : Name). names y (naming w d)) o ∙ names_one y d in
          named-answer r p s (naming z d) y n ∙ ap (λ u. answer_of (r.slots.call u d)) q ∙ sym (named-answer r p t (naming z d) y n)
      go (nobody {c = c} i) e =
          ap (λ (o : Outcome r.Stations). answer_of o) (nobody_call r p s c i)
          ∙ sym (ap (λ (o : Outcome r.Stations). answer_of o) (nobody_call r p t c i))

  -- the answers to the other calls, where those that name x are left out
  left_answers : (x y : Name) → (x ≡ y → ⊥) → (s t : r.Stations) → r.slot y s ≡ r.slot y t → (calls : List NamedCall)
      → keep (λ (e : NamedCall × Answer). not (names x e.0)) (transcript r.call s calls) ≡ transcript r.call t (leave_out x calls)
  unfolding transcript keep run
  left_answers x y h s t q [] = refl
  left_answers x y h s t q (c ∷ cs) =
      let a : NamedCall × Answer = (c, answer_of (r.call s c)) in
      let others = transcript r.call (r.call s c).station cs in
      by_bool (names x c)
      (λ e.
      keep_no _ a others (ap not e)
      ∙ left_answers x y h (r.call s c).station t (other_slot r p y s c (names_not x y h c e) ∙ q) cs
      ∙ ap (transcript r.call t) (sym (keep_no _ c cs (ap not e))))
      (λ e.
      keep_yes _ a others (ap not e)
      ∙ ap₂ (λ b rest. (c, b) ∷ rest) (same_answer x y h s t q c e)
      (left_answers x y h (r.call s c).station (r.call t c).station (same_after y s t q (c ∷ [])) cs)
      ∙ ap (transcript r.call t) (sym (keep_yes _ c cs (ap not e))))

  pub apart : Apart r
  unfolding run
  apart =
      record {
        alone = λ x s calls. record { slot = run-named x s calls; answers = transcript-named x s calls };
        left_out = λ x y h s t q calls.
            let e = run-named y s calls ∙ ap₂ (run r.slots.call) q (sym (calls_left x y h calls)) ∙ sym (run-named y t (leave_out x calls)) in
            record {
              answers = left_answers x y h s t q calls;
              slot = e;
              key = ap (λ u. key_held (r.slots.view u)) e;
              ledger = λ l. ap (ledger_after l) (sym (calls_left x y h calls));
              stays = run-named x t (leave_out x calls) ∙ ap (run r.slots.call (r.slot x t)) (calls_none x calls);
            };
      }
