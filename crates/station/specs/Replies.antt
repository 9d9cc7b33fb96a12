-- What the calls of the station hand back: those of the slot that is named, with that slot put back. Assumes nothing.
use Rattle.ledger.specs.Slot.{Outcome}
use Rattle.slot.specs.Replies.{fresh_slot}
use Rattle.slot.specs.Replies as Slots
use Rattle.slot.specs.declared.Slot.{Slot}
use Rattle.recipients.specs.Names.{Name, A, B, NamedCall}
use Rattle.recipients.specs.Recipients.{called, Recipients}
use Rattle.station.specs.declared.Station.{Station}
use Rattle.station.specs.declared.Reply.{Reply}
use Rattle.station.specs.declared.Reported.{Reported}
use Rattle.station.specs.declared.Derived.{Derived}

-- the slot of a name, and a slot put in its place
unfoldable pub slot_of : Name → Station → Slot
slot_of A s = s.a
slot_of B s = s.b

unfoldable pub put : Name → Slot → Station → Station
put A t s = record { a = t; b = s.b }
put B t s = record { a = s.a; b = t }

-- both slots are empty, with zeros only
unfoldable pub fresh_station : Station
fresh_station = record { a = fresh_slot; b = fresh_slot }

-- a call on a station
unfoldable pub handed : Station → NamedCall → Outcome Station
handed = called slot_of put (Slots.code).call

-- the reply to a call; to a report, whose answer is the counts; to a session key's call, whose answer is the key
unfoldable pub reply_of : Outcome Station → Reply
reply_of r = record { station = r.station; refused = r.number; ones = r.count }

unfoldable pub reported_of : Outcome Station → Reported
reported_of r = record { station = r.station; refused = r.number; counts = r.answer }

unfoldable pub derived_of : Outcome Station → Derived
derived_of r = record { station = r.station; refused = r.number; key = r.answer }

-- The code's calls as two recipients: its stations are the structs with their arrays. The demands are about it.
abbrev pub code : Recipients
code =
    record {
      slots = Slots.code;
      Stations = Station;
      fresh = fresh_station;
      slot = slot_of;
      put = put;
      call = handed;
    }
