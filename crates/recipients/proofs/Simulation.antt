-- The calls that name one recipient show what the definitions' calls hand back. Assumes nothing.
use mathlib.Core.Path.{◌≡◌, refl, sym, ap, ◌∙◌}
use mathlib.Core.List.{List}
use Rattle.ledger.specs.Slot.{Outcome}
use Rattle.ledger.specs.Slot as Definition
use Rattle.ledger.specs.Calls.{Call, publish, ask, step, run}
use Rattle.ledger.proofs.StepLaws.{outcome}
use Rattle.ledger.proofs.Simulation.{Simulates, seen, run-fresh}
use Rattle.recipients.specs.Names.{Name, NamedCall, naming, calls_of}
use Rattle.recipients.specs.Recipients.{within, Recipients, recipient}
use Rattle.recipients.proofs.NameLaws.{names_one}
use Rattle.recipients.proofs.Slotted.{Slotted, named_call}
use Rattle.recipients.proofs.Apart.{run-named}

module _ (r : Recipients) (p : Slotted r) (sim : Simulates r.slots) (x : Name) where
  -- a call that names x is its slot's
  module _ (s : r.Stations) (c : Call) where
    naming_call : r.call s (naming x c) ≡ within (λ t. r.put x t s) (r.slots.call (r.slot x s) c)
    naming_call = named_call r p s (naming x c) x (names_one x c)

    naming-number : (r.call s (naming x c)).number ≡ (r.slots.call (r.slot x s) c).number
    unfolding within
    naming-number = ap (λ (o : Outcome r.Stations). o.number) naming_call

    naming_station : (t : r.slots.Stations) → (r.slots.call (r.slot x s) c).station ≡ t → (r.call s (naming x c)).station ≡ r.put x t s
    unfolding within
    naming_station t e = ap (λ (o : Outcome r.Stations). o.station) naming_call ∙ ap (λ u. r.put x u s) e

    -- where its slot stays, the station does
    naming_stays : (r.slots.call (r.slot x s) c).station ≡ r.slot x s → (r.call s (naming x c)).station ≡ s
    naming_stays e = naming_station (r.slot x s) e ∙ p.same x s

    naming_seen : seen (recipient r x) (r.call s (naming x c)) ≡ seen r.slots (r.slots.call (r.slot x s) c)
    unfolding seen within
    naming_seen =
        ap (λ (o : Outcome r.Stations). seen (recipient r x) o) naming_call
        ∙ outcome (ap r.slots.view (p.got x (r.slots.call (r.slot x s) c).station s)) refl refl refl refl refl

  pub recipient_simulates : Simulates (recipient r x)
  recipient_simulates =
      record {
        fresh = ap r.slots.view (p.fresh x) ∙ sim.fresh;
        marked = λ s. ap r.slots.view (p.got x (r.slots.marked (r.slot x s)) s) ∙ sim.marked (r.slot x s);
        steps = λ s c. naming_seen s c ∙ sim.steps (r.slot x s) c;
        stays = λ s c n e. naming_stays s c (sim.stays (r.slot x s) c n (sym (naming-number s c) ∙ e));
        marks = λ s f e. naming_station s (publish f) _ (sim.marks (r.slot x s) f (sym (naming-number s (publish f)) ∙ e));
        leaves = λ s q. naming_stays s (ask q) (sim.leaves (r.slot x s) q);
      }

  -- after every list of calls over both, x has the definitions' slot after the calls that name x
  pub shown_after : (calls : List NamedCall) → (recipient r x).view (run r.call r.fresh calls) ≡ run step Definition.fresh (calls_of x calls)
  shown_after calls =
      ap r.slots.view (run-named r p x r.fresh calls)
      ∙ ap (λ t. r.slots.view (run r.slots.call t (calls_of x calls))) (p.fresh x)
      ∙ run-fresh r.slots sim (calls_of x calls)
