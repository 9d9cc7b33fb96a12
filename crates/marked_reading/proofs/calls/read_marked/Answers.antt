-- The checks, the two tries, then the output. Assumes nothing.
use mathlib.Core.Path.{◌∙◌}
use Rattle.field.proofs.Verdicts.{verdict_accepted, verdict_taken}
use Rattle.key.specs.Kept.{parts}
use Rattle.marked_reading.proofs.Answered.{marked-refusal, marked-given}
use Rattle.marked_reading.proofs.calls.read_marked.Goals as goal

pub returns-in_default : goal.returns-in_default
returns-in_default c =
    let a = c.args in
    let t = verdict_taken _ c.check_marked-x.ensures c.in_default.is c.number.ensures in
    let k = parts a.m a.n a.t a.support.now a.g.now in
    let both = marked-refusal k a.word.now a.marks.now a.out.now t.0 t.1 in
    record { answer = both.0; output = both.1 }

pub returns : goal.returns
returns c =
    let a = c.args in
    let k = parts a.m a.n a.t a.support.now a.g.now in
    let clear = verdict_accepted _ c.check_marked-x.ensures c.in-Accepted.is in
    let r = marked-given k a.word.now a.marks.now a.out.now clear c.decode_marked-e.ensures in
    record { answer = c.given.ensures.answer ∙ r.0; output = c.given.ensures.output ∙ r.1 }
