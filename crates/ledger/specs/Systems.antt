-- Systems of calls: what the demands are about. Assumes nothing.
use Rattle.ledger.specs.Slot.{published, Slot, Outcome}
use Rattle.ledger.specs.Slot as Definition
use Rattle.ledger.specs.Calls.{Call, step}

-- Its stations, the fresh one, the slot that a station shows, the station published with the same key, and what a call on a
-- station hands back. Where a station has two slots, each of them makes it a system.
pub record System : Type 1 where
  pub Stations : Type 0
  pub fresh : Stations
  pub view : Stations → Slot
  pub marked : Stations → Stations
  pub call : Stations → Call → Outcome Stations

-- the definitions themselves
abbrev pub definitions : System
definitions =
    record {
      Stations = Slot;
      fresh = Definition.fresh;
      view = λ s. s;
      marked = λ s. record { state = published; key = s.key };
      call = step;
    }
