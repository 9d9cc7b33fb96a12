-- The checks, the opening, then the output. Assumes nothing.
use mathlib.Core.Path.{◌∙◌}
use mathlib.Core.Bool.{not}
use Rattle.field.proofs.Verdicts.{verdict_accepted, verdict_taken}
use Rattle.key.specs.Kept.{parts}
use Rattle.reading.proofs.Answered.{open_refusal, open_given}
use Rattle.reading.proofs.calls.open.Goals as goal

pub returns-in_default : goal.returns-in_default
returns-in_default c =
    let a = c.args in
    let t = verdict_taken _ c.check_capsule-x.ensures c.in_default.is c.number.ensures in
    let k = parts a.m a.n a.t a.support.now a.g.now in
    let both = open_refusal (not a.published) k a.capsule.now a.out.now t.0 t.1 in
    record { answer = both.0; output = both.1 }

pub returns : goal.returns
returns c =
    let a = c.args in
    let k = parts a.m a.n a.t a.support.now a.g.now in
    let clear = verdict_accepted _ c.check_capsule-x.ensures c.in-Accepted.is in
    let r = open_given (not a.published) k a.capsule.now a.out.now clear c.open_checked-e.ensures in
    record { answer = c.given.ensures.answer ∙ r.0; output = c.given.ensures.output ∙ r.1 }
