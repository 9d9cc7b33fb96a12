-- The state, then the lower call. Assumes nothing.
use mathlib.Core.Path.{sym, ap, ◌∙◌}
use Rattle.reading.specs.Answers.{answer_of}
use Rattle.ledger.specs.Questions.{open_capsule, answer_buffer}
use Rattle.ledger.specs.Calls.{ask, output_of}
use Rattle.slot.specs.Replies.{Reply, refusal}
use Rattle.slot.specs.Parts.{slot_in, answered_of}
use Rattle.slot.proofs.ReplyLaws.{stop, stopped}
use Rattle.slot.proofs.LowerLaws.{open_answer, open_output_lem}
use Rattle.slot.proofs.open.Goals as goal

pub returns-then-is_empty : goal.returns-then-is_empty
unfolding stop output_of answer_buffer refusal answered_of answer_of
returns-then-is_empty c =
    let a = c.args in
    let s = slot_in a.state a.m a.n a.t a.support.now a.g.now in
    let t = stopped s (ask (open_capsule a.capsule.now a.out.now)) (sym c.is_empty.ensures ∙ c.if-is_empty.true) in
    record { answer = ap (λ (r : Reply). answer_of r.refused r.ones) t.0; output = t.1 }

pub returns : goal.returns
returns c =
    let a = c.args in
    let s = slot_in a.state a.m a.n a.t a.support.now a.g.now in
    let k = sym c.is_empty.ensures ∙ c.if-is_empty.false in
    record {
      answer = c.«open».ensures.answer ∙ open_answer s a.capsule.now a.out.now k _ c.is_published.ensures;
      output = c.«open».ensures.output ∙ open_output_lem s a.capsule.now a.out.now k _ c.is_published.ensures;
    }
