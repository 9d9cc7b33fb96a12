-- Terms of the contracts of private functions: the name that a byte chooses, and replies with it. Assumes nothing.
use Rattle.std.specs.Prelude.{ℕ}
use Rattle.ledger.specs.Slot.{published}
use Rattle.slot.specs.Replies.{byte_of}
use Rattle.slot.specs.declared.Slot.{Slot}
use Rattle.naming.specs.Picks.{pick}
use Rattle.recipients.specs.Names.{Name, A, B}
use Rattle.station.specs.Replies.{slot_of, put}
use Rattle.station.specs.declared.Station.{Station}
use Rattle.station.specs.declared.Reply.{Reply}

-- the name that a byte picks: A for 1, else B
abbrev pub chosen : ℕ → Name
chosen b = pick b A B

-- refused: the station as it was
abbrev pub refusal : Station → ℕ → Reply
refusal s n = record { station = s; refused = n; ones = 0 }

-- accepted: a slot in the place of the name
abbrev pub placed : ℕ → Slot → Station → Reply
placed b t s = record { station = put (chosen b) t s; refused = 0; ones = 0 }

-- accepted: the slot of the name published
abbrev pub marked : ℕ → Station → Reply
marked b s = placed b (record { state = byte_of published; key = (slot_of (chosen b) s).key }) s
