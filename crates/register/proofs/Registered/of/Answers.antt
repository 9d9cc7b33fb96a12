-- `register::Registered::of` meets its contract. Assumes nothing.
use mathlib.Core.Path.{◌∙◌}
use Rattle.field.proofs.Verdicts.{verdict_accepted, verdict_taken}
use Rattle.poly.proofs.Answers.{accepted}
use Rattle.register.proofs.Answers.{refused, answered}
use Rattle.register.proofs.Registered.of.Goals as goal

pub returns-in_default : goal.returns-in_default
returns-in_default c =
    let t = verdict_taken _ c.check-x.ensures c.in_default.is c.number.ensures in
    refused _ _ _ t.0 t.1

pub run-requires : goal.run-requires
run-requires c = accepted _ _ (verdict_accepted _ c.check-x.ensures c.in-Accepted.is)

pub returns : goal.returns
returns c = c.run.ensures ∙ answered _ _ (verdict_accepted _ c.check-x.ensures c.in-Accepted.is)
