-- The state, then the lower call. Assumes nothing.
use mathlib.Core.Path.{refl, sym, ap, ◌∙◌}
use Rattle.field.specs.Verdicts.{verdict_of}
use Rattle.field.proofs.Verdicts.{refuses}
use Rattle.ledger.specs.Publishing.{small, public_buffer, work_buffer, needed_bytes}
use Rattle.ledger.specs.Calls.{publish, output_of}
use Rattle.slot.specs.Parts.{slot_in}
use Rattle.slot.proofs.ReplyLaws.{stop, stopped, stopped_number}
use Rattle.slot.proofs.LowerLaws.{form_number, form_output, form_work}
use Rattle.slot.proofs.publish_small.Goals as goal

pub returns-then-is_empty : goal.returns-then-is_empty
unfolding stop output_of public_buffer
returns-then-is_empty c =
    let a = c.args in
    let s = slot_in a.state a.m a.n a.t a.support.now a.g.now in
    let p = publish (small a.out.now a.work.now) in
    let k = sym c.is_empty.ensures ∙ c.if-is_empty.true in
    record { answer = refuses (stopped_number s p k); output = (stopped s p k).1; workspace = refl }

pub returns : goal.returns
unfolding public_buffer work_buffer needed_bytes
returns c =
    let a = c.args in
    let s = slot_in a.state a.m a.n a.t a.support.now a.g.now in
    let f = small a.out.now a.work.now in
    let k = sym c.is_empty.ensures ∙ c.if-is_empty.false in
    record {
      answer = c.publish_small.ensures.answer ∙ ap verdict_of (form_number s f k);
      output = c.publish_small.ensures.output ∙ form_output s f k;
      workspace = form_work s f k _ _ c.publish_small.ensures.workspace;
    }
