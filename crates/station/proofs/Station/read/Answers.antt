-- The name, then the slot's call. Assumes nothing.
use mathlib.Core.Path.{sym, ap, ◌∙◌}
use Rattle.ledger.specs.Questions.{read_word, answer_buffer}
use Rattle.ledger.specs.Calls.{ask, output_of}
use Rattle.slot.specs.Replies.{Handed, handed}
use Rattle.slot.specs.Parts.{answered_of}
use Rattle.slot.specs.declared.Slot.{Slot}
use Rattle.station.proofs.Picked.{slot_parts}
use Rattle.station.proofs.Named.{reply_unknown, output_unknown, answer_refused, answer-ones, output_known}
use Rattle.station.proofs.Station.read.Goals as goal

pub returns-then-not-is_name : goal.returns-then-not-is_name
unfolding output_of answer_buffer
returns-then-not-is_name c =
    let a = c.args in
    let q = ask (read_word a.word.now a.out.now) in
    let k = sym c.is_name.ensures ∙ c.if-not-is_name.true in
    record { reply = c.refuse.ensures ∙ reply_unknown a.self a.name q k; output = output_unknown a.self a.name q k }

pub returns-in_default : goal.returns-in_default
returns-in_default c =
    let a = c.args in
    let k = sym c.is_name.ensures ∙ c.if-not-is_name.false in
    let t = slot_parts a.name a.self c.byte.ensures c.byte-2.ensures c.number.ensures c.number-2.ensures c.places.ensures c.coefficients.ensures in
    let q = read_word a.word.now a.out.now in
    let h = ap (λ (s : Slot). handed s (ask q)) t in record {
      reply = c.refuse-in_default.ensures
          ∙ answer_refused a.self a.name q k (c.read-answer.ensures.answer ∙ ap answered_of h) c.answer_number.ensures c.in_default.is;
      output = c.read-answer.ensures.output ∙ ap (λ (r : Handed). r.output) h ∙ output_known a.self a.name (ask q) k;
    }

pub returns : goal.returns
returns c =
    let a = c.args in
    let k = sym c.is_name.ensures ∙ c.if-not-is_name.false in
    let t = slot_parts a.name a.self c.byte.ensures c.byte-2.ensures c.number.ensures c.number-2.ensures c.places.ensures c.coefficients.ensures in
    let q = read_word a.word.now a.out.now in
    let h = ap (λ (s : Slot). handed s (ask q)) t in
    record {
      reply = answer-ones a.self a.name q k (c.read-answer.ensures.answer ∙ ap answered_of h) c.in-Ones.is;
      output = c.read-answer.ensures.output ∙ ap (λ (r : Handed). r.output) h ∙ output_known a.self a.name (ask q) k;
    }
