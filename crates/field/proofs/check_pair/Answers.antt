-- `field::check_pair` meets its contract. Assumes nothing.
use mathlib.Core.Path.{ap, ◌∙◌}
use Rattle.field.specs.Verdicts.{verdict_of}
use Rattle.field.proofs.Verdicts.{verdict_accepted, verdict_refused}
use Rattle.field.proofs.CallGuards.{first_refused, first_allowed}
use Rattle.field.proofs.check_pair.Goals as goal

pub returns-in_default : goal.returns-in_default
returns-in_default c =
    let x = c.check-x in
    x.ensures ∙ ap verdict_of (first_refused _ _ _ (verdict_refused _ x.ensures c.in_default.is))

pub returns : goal.returns
returns c = c.check.ensures ∙ ap verdict_of (first_allowed _ _ _ (verdict_accepted _ c.check-x.ensures c.in-Accepted.is))
