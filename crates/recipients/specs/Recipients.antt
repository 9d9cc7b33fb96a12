-- Request L6: a station with a slot for each recipient. A call goes to the slot that it names, and 35 stands before all else.
-- Assumes nothing.
use Rattle.std.specs.Prelude.{ℕ, Bool, true, false, List, [], ◌∷◌}
use Rattle.std.proofs.Math.Option.{none, some}
use Rattle.ledger.specs.Slot.{Held, Outcome}
use Rattle.ledger.specs.Calls.{Call, conditions_of, output_of, no_answer}
use Rattle.ledger.specs.Systems.{System}
use Rattle.ledger.specs.Systems as Slots
use Rattle.recipients.specs.Names.{Name, A, B, name_of, NamedCall, naming}

-- the conditions of a named call, each with its number, by what the slots hold
unfoldable pub named_conditions : (Name → Held) → NamedCall → List (Bool × ℕ)
named_conditions h c = elim (name_of c.name) [
  | none ↦ (true, 35) ∷ []
  | some x ↦ (false, 35) ∷ conditions_of (h x) c.call
]

-- refused with 35: nothing changes
unfoldable pub unknown : {T : Type 0} → T → Call → Outcome T
unknown s c = record { station = s; number = 35; output = output_of c; count = 0; answer = no_answer c; free = 0 }

-- what a slot's call hands back, with its slot put into the station
unfoldable pub within : {S T : Type 0} → (S → T) → Outcome S → Outcome T
within put r =
    record {
      station = put r.station;
      number = r.number;
      output = r.output;
      count = r.count;
      answer = r.answer;
      free = r.free;
    }

-- a named call, where `slot` looks up a slot of a station, `put` replaces it, and `call` is a slot's call
unfoldable pub called : {S T : Type 0} → (Name → T → S) → (Name → S → T → T) → (S → Call → Outcome S) → T → NamedCall → Outcome T
called slot put call s c = elim (name_of c.name) [
  | none ↦ unknown s c.call
  | some x ↦ within (λ t. put x t s) (call (slot x s) c.call)
]

-- Two recipients: what a slot is, the stations, the fresh one, the slot of a name, a slot replaced, and what a named call on a
-- station hands back.
pub record Recipients : Type 1 where
  pub slots : System
  pub Stations : Type 0
  pub fresh : Stations
  pub slot : Name → Stations → slots.Stations
  pub put : Name → slots.Stations → Stations → Stations
  pub call : Stations → NamedCall → Outcome Stations

-- the calls that name x are a system: a station shows the slot of x
abbrev pub recipient : Recipients → Name → System
recipient r x =
    record {
      Stations = r.Stations;
      fresh = r.fresh;
      view = λ s. r.slots.view (r.slot x s);
      marked = λ s. r.put x (r.slots.marked (r.slot x s)) s;
      call = λ s c. r.call s (naming x c);
    }

-- one for A and one for B
pub record Both (S : Type 0) : Type 0 where
  pub a : S
  pub b : S

unfoldable pub of : {S : Type 0} → Name → Both S → S
of A s = s.a
of B s = s.b

unfoldable pub put : {S : Type 0} → Name → S → Both S → Both S
put A t s = record { a = t; b = s.b }
put B t s = record { a = s.a; b = t }

-- the definitions themselves: two slots
abbrev pub definitions : Recipients
definitions =
    record {
      slots = Slots.definitions;
      Stations = Both (Slots.definitions).Stations;
      fresh = record { a = (Slots.definitions).fresh; b = (Slots.definitions).fresh };
      slot = of;
      put = put;
      call = called of put (Slots.definitions).call;
    }
