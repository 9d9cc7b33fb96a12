-- The width, then what load and publish hand back. Assumes nothing.
use mathlib.Core.Path.{◌≡◌, sym, ap, ◌∙◌}
use Rattle.ledger.specs.Publishing.{systematic}
use Rattle.ledger.specs.Calls.{publish}
use Rattle.recipients.specs.Names.{byte_of}
use Rattle.station.specs.declared.Station.{Station}
use Rattle.station.specs.declared.Reply.{Reply}
use Rattle.opener.specs.Report.{room}
use Rattle.opener.specs.Prepared.{reply_a, key_answer, ready_of}
use Rattle.opener.specs.declared.KeyAnswer.{KeyAnswer}
use Rattle.opener.specs.declared.KeyAnswer.TheVariants.{TooLarge}
use Rattle.opener.proofs.Stages.{zero-accepted, number-accepted, loaded, prepared-large, prepared_refused, prepared_published}
use Rattle.opener.proofs.prepare_whole.Goals as goal

pub returns-then-large : goal.returns-then-large
returns-then-large c =
    let a = c.args in
    ap (λ (s : Station). record { station = s; answer = TooLarge }) c.fresh-station.ensures
    ∙ sym (prepared-large a.file.now (sym c.large.ensures ∙ c.if-large.true))

pub returns-in_default : goal.returns-in_default
unfolding ready_of byte_of
returns-in_default c =
    let a = c.args in
    let e = loaded a.file.now c.fresh-station.ensures c.load-loaded.ensures in
    let k = c.key_answer-answer in
    let h : k.result ≡ key_answer 0 → ⊥ = λ z. c.in_default.not-Accepted (z ∙ sym zero-accepted) in
    ap (λ (x : KeyAnswer). record { station = c.load-loaded.result.station; answer = x }) k.ensures
    ∙ ap ready_of e
    ∙ sym (prepared_refused a.file.now (sym c.large.ensures ∙ c.if-large.false) (λ z. h (k.ensures ∙ ap key_answer (ap (λ (r : Reply). r.refused) e ∙ z))))

pub returns : goal.returns
unfolding ready_of byte_of
returns c =
    let a = c.args in
    let e = loaded a.file.now c.fresh-station.ensures c.load-loaded.ensures in
    let n = number-accepted c.load-loaded.result.refused c.key_answer-answer.ensures c.in-Accepted.is in
    ap (λ (x : KeyAnswer). record { station = c.publish-published.result.station; answer = x }) c.key_answer-answer-2.ensures
    ∙ ap ready_of (c.publish-published.ensures ∙ ap (λ (r : Reply). reply_a r.station (publish (systematic room room))) e)
    ∙ sym (prepared_published a.file.now (sym c.large.ensures ∙ c.if-large.false) (sym (ap (λ (r : Reply). r.refused) e) ∙ n))
