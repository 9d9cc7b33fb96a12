-- The name, then the slot's call. Assumes nothing.
use mathlib.Core.Path.{sym, ap, ◌∙◌}
use Rattle.session_key.specs.declared.SessionKey.{SessionKey}
use Rattle.ledger.specs.Questions.{derive_session_key, answer_size}
use Rattle.ledger.specs.Calls.{ask, no_answer}
use Rattle.slot.specs.Replies.{handed}
use Rattle.slot.specs.Parts.{derived_of}
use Rattle.slot.specs.declared.Slot.{Slot}
use Rattle.station.proofs.Picked.{slot_parts}
use Rattle.station.proofs.Named.{derived_unknown, derived_left}
use Rattle.station.proofs.Station.session.Goals as goal

pub returns-then-not-is_name : goal.returns-then-not-is_name
unfolding no_answer answer_size
returns-then-not-is_name c =
    let a = c.args in
    derived_unknown a.self a.name (ask (derive_session_key a.capsule.now a.secret.now)) (sym c.is_name.ensures ∙ c.if-not-is_name.true)

pub returns : goal.returns
unfolding derived_of
returns c =
    let a = c.args in
    let k = sym c.is_name.ensures ∙ c.if-not-is_name.false in
    let t = slot_parts a.name a.self c.byte.ensures c.byte-2.ensures c.number.ensures c.number-2.ensures c.places.ensures c.coefficients.ensures in
    let q = derive_session_key a.capsule.now a.secret.now in
    ap (λ (r : SessionKey). record { station = a.self; refused = r.refused; key = r.key })
    (c.session-derived.ensures ∙ ap (λ (s : Slot). derived_of (handed s (ask q))) t)
    ∙ derived_left a.self a.name q k
