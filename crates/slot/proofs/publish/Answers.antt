-- The state, then the lower call. Assumes nothing.
use mathlib.Core.Path.{refl, sym, ap, ◌∙◌}
use Rattle.field.specs.Verdicts.{verdict_of}
use Rattle.field.proofs.Verdicts.{refuses}
use Rattle.ledger.specs.Publishing.{systematic, public_buffer}
use Rattle.ledger.specs.Calls.{publish, output_of}
use Rattle.slot.specs.Parts.{slot_in}
use Rattle.slot.proofs.ReplyLaws.{stop, stopped, stopped_number}
use Rattle.slot.proofs.LowerLaws.{publish_number_lem, publish_output_lem, publish_work}
use Rattle.slot.proofs.publish.Goals as goal

pub returns-then-is_empty : goal.returns-then-is_empty
unfolding stop output_of public_buffer
returns-then-is_empty c =
    let a = c.args in
    let s = slot_in a.state a.m a.n a.t a.support.now a.g.now in
    let p = publish (systematic a.out.now a.work.now) in
    let k = sym c.is_empty.ensures ∙ c.if-is_empty.true in
    record { answer = refuses (stopped_number s p k); output = (stopped s p k).1; workspace = refl }

pub returns : goal.returns
returns c =
    let a = c.args in
    let s = slot_in a.state a.m a.n a.t a.support.now a.g.now in
    let k = sym c.is_empty.ensures ∙ c.if-is_empty.false in
    record {
      answer = c.publish.ensures.answer ∙ ap verdict_of (publish_number_lem s a.out.now a.work.now k);
      output = c.publish.ensures.output ∙ publish_output_lem s a.out.now a.work.now k;
      workspace = publish_work s a.out.now a.work.now k _ _ c.publish.ensures.workspace;
    }
