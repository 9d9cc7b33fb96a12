-- The same empty slot twice. Assumes nothing.
use mathlib.Core.Path.{ap}
use Rattle.slot.specs.declared.Slot.{Slot}
use Rattle.station.specs.Replies.{fresh_station}
use Rattle.station.proofs.Station.fresh.Goals as goal

pub returns : goal.returns
unfolding fresh_station
returns c = ap (λ (t : Slot). record { a = t; b = t }) c.fresh-a.ensures
