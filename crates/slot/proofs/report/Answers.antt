-- The state, then the lower call. Assumes nothing.
use mathlib.Core.Path.{refl, sym, ◌∙◌}
use Rattle.reporting.specs.Answers.{report_answer}
use Rattle.slot.specs.Parts.{slot_in}
use Rattle.ledger.specs.Questions.{answer_size}
use Rattle.ledger.specs.Calls.{no_answer}
use Rattle.slot.proofs.ReportLaws.{report_stopped, report_lower, report_output_lem}
use Rattle.slot.proofs.report.Goals as goal

pub returns-then-is_empty : goal.returns-then-is_empty
unfolding no_answer answer_size
returns-then-is_empty c =
    let a = c.args in
    let s = slot_in a.state a.m a.n a.t a.support.now a.g.now in
    let both = report_stopped s a.capsules.now a.records.now (sym c.is_empty.ensures ∙ c.if-is_empty.true) refl in
    record { answer = both.0; output = both.1 }

pub returns : goal.returns
unfolding report_answer
returns c =
    let a = c.args in
    let s = slot_in a.state a.m a.n a.t a.support.now a.g.now in
    let k = sym c.is_empty.ensures ∙ c.if-is_empty.false in
    record {
      answer = c.report.ensures.answer ∙ report_lower s a.capsules.now a.records.now k _ c.is_published-published.ensures;
      output = c.report.ensures.output ∙ report_output_lem s a.capsules.now a.records.now k _ c.is_published-published.ensures;
    }
