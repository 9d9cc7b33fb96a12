-- The name, then the slot's call. Assumes nothing.
use mathlib.Core.Path.{sym, ap, ◌∙◌}
use Rattle.reporting.specs.declared.Counted.{Counted}
use Rattle.ledger.specs.Questions.{report, answer_buffer, answer_size}
use Rattle.ledger.specs.Calls.{ask, output_of, no_answer}
use Rattle.slot.specs.Replies.{Handed, handed}
use Rattle.slot.specs.Parts.{counted_of}
use Rattle.slot.specs.declared.Slot.{Slot}
use Rattle.station.proofs.Picked.{slot_parts}
use Rattle.station.proofs.Named.{reported_unknown, output_unknown, reported_left, output_known}
use Rattle.station.proofs.Station.report.Goals as goal

pub returns-then-not-is_name : goal.returns-then-not-is_name
unfolding output_of answer_buffer no_answer answer_size
returns-then-not-is_name c =
    let a = c.args in
    let q = ask (report a.capsules.now a.records.now) in
    let k = sym c.is_name.ensures ∙ c.if-not-is_name.true in
    record { reply = reported_unknown a.self a.name q k; output = output_unknown a.self a.name q k }

pub returns : goal.returns
unfolding counted_of
returns c =
    let a = c.args in
    let k = sym c.is_name.ensures ∙ c.if-not-is_name.false in
    let t = slot_parts a.name a.self c.byte.ensures c.byte-2.ensures c.number.ensures c.number-2.ensures c.places.ensures c.coefficients.ensures in
    let q = report a.capsules.now a.records.now in
    let h = ap (λ (s : Slot). handed s (ask q)) t in record {
      reply = ap (λ (r : Counted). record { station = a.self; refused = r.refused; counts = r.counts }) (c.report-counted.ensures.answer ∙ ap counted_of h)
          ∙ reported_left a.self a.name q k;
      output = c.report-counted.ensures.output ∙ ap (λ (r : Handed). r.output) h ∙ output_known a.self a.name (ask q) k;
    }
