-- The number 0, or another. Assumes nothing.
use mathlib.Core.Path.{sym, ap, ◌∙◌}
use Rattle.opener.specs.Prepared.{key_answer}
use Rattle.opener.proofs.Stages.{zero-accepted, other_refused}
use Rattle.opener.proofs.key_answer.Goals as goal

pub returns-then-number-eq0 : goal.returns-then-number-eq0
returns-then-number-eq0 c = zero-accepted ∙ ap key_answer (sym c.if-number-eq0.true)

pub returns : goal.returns
returns c = other_refused c.args.number c.if-number-eq0.false
