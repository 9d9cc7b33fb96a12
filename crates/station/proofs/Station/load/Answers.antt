-- The reply of a refusal holds the station and 35. Assumes nothing.
use mathlib.Core.Path.{sym, ap, ◌∙◌}
use Rattle.station.specs.declared.Reply.{Reply}
use Rattle.station.specs.Chosen.{refusal}
use Rattle.station.proofs.Station.load.Goals as goal

pub put_load-requires : goal.put_load-requires
put_load-requires c =
    let e = c.refuse-reply.ensures in
    e ∙ ap (λ (q : Reply). refusal q.station 35) (sym e)
