-- Two recipients whose slots show the definitions' slots answer every list of calls as the definitions do. Assumes nothing.
use mathlib.Core.Path.{◌≡◌, refl, sym, ap, ap₂, ◌∙◌}
use mathlib.Core.List.{List, [], ◌∷◌, map}
use Rattle.ledger.specs.Slot.{Slot, Outcome, Result}
use Rattle.ledger.specs.Calls.{Call, step}
use Rattle.ledger.proofs.Simulation.{Simulates, seen, same_station}
use Rattle.ledger_tables.proofs.Table as Rows
use Rattle.recipients.specs.Names.{Name, NamedCall, naming, names}
use Rattle.recipients.specs.Recipients.{unknown, Recipients, Both, of, definitions}
use Rattle.recipients.specs.Apart.{Answer, answer_of, transcript}
use Rattle.recipients.proofs.NameLaws.{by_bool, names_one, Addressed, one, nobody, addressed}
use Rattle.recipients.proofs.Slotted.{Slotted, definitions_slotted, of_both, named_slot, named-answer, nobody_call, other_slot}

module _ (r : Recipients) (p : Slotted r) (sim : Simulates r.slots) where
  -- the slots of s show those of t
  abbrev Shows : r.Stations → Both Slot → Type 0
  Shows s t = (x : Name) → r.slots.view (r.slot x s) ≡ of x t

  slot_answer : (u : r.slots.Stations) (d : Call) → answer_of (r.slots.call u d) ≡ answer_of (step (r.slots.view u) d)
  unfolding seen answer_of
  slot_answer u d = ap (λ (o : Result). answer_of o) (sim.steps u d)

  same_answer : (s : r.Stations) (t : Both Slot) → Shows s t → (c : NamedCall) → answer_of (r.call s c) ≡ answer_of (definitions.call t c)
  unfolding answer_of unknown
  same_answer s t e c = go (addressed c)
    where
      go : {c : NamedCall} → Addressed c → answer_of (r.call s c) ≡ answer_of (definitions.call t c)
      go (one x d) =
          named-answer r p s (naming x d) x (names_one x d)
          ∙ slot_answer (r.slot x s) d
          ∙ ap (λ (u : Slot). answer_of (step u d)) (e x)
          ∙ sym (named-answer definitions definitions_slotted t (naming x d) x (names_one x d))
      go (nobody {c = c} h) =
          ap (λ (o : Outcome r.Stations). answer_of o) (nobody_call r p s c h)
          ∙ sym (ap (λ (o : Outcome (Both Slot)). answer_of o) (nobody_call definitions definitions_slotted t c h))

  shows_next : (s : r.Stations) (t : Both Slot) → Shows s t → (c : NamedCall) → Shows (r.call s c).station (definitions.call t c).station
  shows_next s t e c x =
      by_bool (names x c)
      (λ n.
      ap r.slots.view (named_slot r p s c x n)
      ∙ same_station r.slots sim (r.slot x s) c.call
      ∙ ap (λ (u : Slot). (step u c.call).station) (e x)
      ∙ sym (named_slot definitions definitions_slotted t c x n))
      (λ n. ap r.slots.view (other_slot r p x s c n) ∙ e x ∙ sym (other_slot definitions definitions_slotted x t c n))

  same-transcript : (s : r.Stations) (t : Both Slot) → Shows s t → (calls : List NamedCall) → transcript r.call s calls ≡ transcript definitions.call t calls
  unfolding transcript
  same-transcript s t e [] = refl
  same-transcript s t e (c ∷ cs) =
      ap₂ (λ a rest. (c, a) ∷ rest) (same_answer s t e c) (same-transcript (r.call s c).station (definitions.call t c).station (shows_next s t e c) cs)

  -- from the fresh station
  pub same_answers : (calls : List NamedCall) → transcript r.call r.fresh calls ≡ transcript definitions.call definitions.fresh calls
  same_answers calls =
      same-transcript r.fresh definitions.fresh (λ x. ap r.slots.view (p.fresh x) ∙ sim.fresh ∙ sym (of_both x _)) calls

-- the answers of a table, from a transcript
unfoldable pub row_of : Answer → Rows.Answer
row_of a = Rows.answer_by a.number a.output a.count

pub rows_answers : {S C : Type 0} (call : S → C → Outcome S) (s : S) (cs : List C) → Rows.answers call s cs ≡ map (λ (e : C × Answer). row_of e.1) (transcript call s cs)
unfolding Rows.answers Rows.answer_of transcript answer_of row_of
rows_answers call s [] = refl
rows_answers call s (c ∷ cs) = ap (◌∷◌ (Rows.answer_of (call s c))) (rows_answers call (call s c).station cs)
