-- The reply of a refusal holds the station and 35. Assumes nothing.
use mathlib.Core.Path.{sym, ap, ◌∙◌}
use Rattle.station.specs.declared.Reply.{Reply}
use Rattle.station.specs.Chosen.{refusal}
use Rattle.station.proofs.Station.load_network.Goals as goal

pub put_load_network-requires : goal.put_load_network-requires
put_load_network-requires c =
    let e = c.refuse-held.ensures in
    e ∙ ap (λ (q : Reply). refusal q.station 35) (sym e)
