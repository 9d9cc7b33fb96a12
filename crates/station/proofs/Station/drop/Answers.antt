-- The name, then the slot's call. Assumes nothing.
use mathlib.Core.Path.{sym, ap, ◌∙◌}
use Rattle.ledger.specs.Calls.{drop_key}
use Rattle.station.specs.declared.Station.{Station}
use Rattle.station.proofs.Picked.{slot_state}
use Rattle.station.proofs.Named.{reply_unknown, drop_refused, drop-placed}
use Rattle.station.proofs.Station.drop.Goals as goal

pub returns-then-not-is_name : goal.returns-then-not-is_name
returns-then-not-is_name c =
    let a = c.args in
    c.refuse.ensures ∙ reply_unknown a.self a.name drop_key (sym c.is_name.ensures ∙ c.if-not-is_name.true)

pub returns-in_default : goal.returns-in_default
returns-in_default c =
    let a = c.args in
    let k = sym c.is_name.ensures ∙ c.if-not-is_name.false in
    c.refuse-in_default.ensures
    ∙ drop_refused a.self a.name k (c.byte.ensures ∙ slot_state a.name a.self) c.drop-answer.ensures c.number.ensures c.in_default.is

pub returns : goal.returns
returns c =
    let a = c.args in
    let k = sym c.is_name.ensures ∙ c.if-not-is_name.false in
    ap (λ (s : Station). record { station = s; refused = 0; ones = 0 }) c.cleared-station.ensures
    ∙ drop-placed a.self a.name k (c.byte.ensures ∙ slot_state a.name a.self) c.drop-answer.ensures c.in-Accepted.is
