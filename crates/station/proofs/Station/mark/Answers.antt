-- The state of one slot. Assumes nothing.
use mathlib.Core.Path.{ap, ◌∙◌}
use Rattle.ledger.specs.Slot.{published}
use Rattle.key.specs.declared.kept.Key.{Key}
use Rattle.slot.specs.Replies.{byte_of}
use Rattle.station.specs.Chosen.{placed}
use Rattle.station.specs.declared.Station.{Station}
use Rattle.station.proofs.Picked.{put_first, put_second, key_first, key_second}
use Rattle.station.proofs.Station.mark.Goals as goal

pub returns-then-name-eq-A : goal.returns-then-name-eq-A
unfolding byte_of
returns-then-name-eq-A c =
    let a = c.args in
    let h = c.if-name-eq-A.true in
    ap (λ (s : Station). record { station = s; refused = 0; ones = 0 }) (put_first a.name _ a.self h)
    ∙ ap (λ (k : Key). placed a.name (record { state = byte_of published; key = k }) a.self) (key_first a.name a.self h)

pub returns-else-name-eq-A : goal.returns-else-name-eq-A
unfolding byte_of
returns-else-name-eq-A c =
    let a = c.args in
    let h = c.if-name-eq-A.false in
    ap (λ (s : Station). record { station = s; refused = 0; ones = 0 }) (put_second a.name _ a.self h)
    ∙ ap (λ (k : Key). placed a.name (record { state = byte_of published; key = k }) a.self) (key_second a.name a.self h)
