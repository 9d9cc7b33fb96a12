-- `station::Station::refuse` meets its contract. Assumes nothing.
use mathlib.Core.Path.{refl}
use Rattle.station.proofs.Station.refuse.Goals as goal

pub returns : goal.returns
returns c = refl
