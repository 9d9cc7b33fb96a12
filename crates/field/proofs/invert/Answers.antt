-- `field::invert` meets its contract. Assumes nothing.
use mathlib.Core.Path.{ap, ◌∙◌}
use Rattle.field.specs.Verdicts.{verdict_of}
use Rattle.field.specs.Answers.{invert_of}
use Rattle.field.proofs.Verdicts.{verdict_accepted, verdict_taken}
use Rattle.field.proofs.Guards.{refused}
use Rattle.field.proofs.CallGuards.{accepted, invert_refused, invert_allowed}
use Rattle.field.proofs.invert.Goals as goal

pub returns-in_default : goal.returns-in_default
unfolding invert_of
returns-in_default c =
    let k = c.check-x.ensures in
    let t = verdict_taken _ k c.in_default.is c.number.ensures in
    refused _ _ (k ∙ ap verdict_of (invert_refused _ _ (λ z. t.1 (t.0 ∙ z)))) c.in_default.is c.number.ensures

pub overflow_cast-a : goal.overflow_cast-a
overflow_cast-a c = record { fits = (accepted _ _ _ (verdict_accepted _ c.check-x.ensures c.in-Accepted.is)).0 }

pub returns : goal.returns
unfolding invert_of
returns c = c.inverse.ensures ∙ invert_allowed _ _ (verdict_accepted _ c.check-x.ensures c.in-Accepted.is)
