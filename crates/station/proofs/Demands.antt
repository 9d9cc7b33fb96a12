-- The demands of the station's calls: for every station, call and list of calls over both recipients. Assumes nothing.
use mathlib.Core.Path.{◌≡◌, refl}
use Rattle.slot.proofs.StepView.{code_simulates}
use Rattle.slot.specs.declared.Slot.{Slot}
use Rattle.recipients.specs.Names.{Name, A, B}
use Rattle.recipients.specs.Demands.{NamedDemands}
use Rattle.recipients.proofs.Slotted.{Slotted}
use Rattle.recipients.proofs.Demands.{named_demands}
use Rattle.station.specs.Replies.{slot_of, put, fresh_station, handed, code}
use Rattle.station.specs.declared.Station.{Station}
use Rattle.station.proofs.Named.{put_same}

got : (x : Name) (t : Slot) (s : Station) → slot_of x (put x t s) ≡ t
unfolding slot_of put
got A t s = refl
got B t s = refl

other : (x y : Name) → (x ≡ y → ⊥) → (t : Slot) (s : Station) → slot_of y (put x t s) ≡ slot_of y s
unfolding slot_of put
other A A h t s = absurd (h refl)
other A B h t s = refl
other B A h t s = refl
other B B h t s = absurd (h refl)

fresh_slot_lem : (x : Name) → slot_of x fresh_station ≡ code.slots.fresh
unfolding slot_of fresh_station
fresh_slot_lem A = refl
fresh_slot_lem B = refl

-- a slot for each name, and calls that go to the slot that they name
pub code_slotted : Slotted code
unfolding handed
code_slotted =
    record {
      fresh = fresh_slot_lem;
      got = got;
      other = other;
      same = put_same;
      calls = λ s c. refl;
    }

pub demands : NamedDemands code
demands = named_demands code code_slotted code_simulates
