-- A refusal, else what is found, where it has t ones. Assumes nothing.
use mathlib.Core.Path.{◌∙◌}
use native.Mathlib.Omega.{arith}
use Rattle.reading.proofs.Answered.{exactly_refused, exactly_other, exactly-found}
use Rattle.reading.proofs.calls.open_checked.Goals as goal

pub returns-in_default : goal.returns-in_default
returns-in_default c = c.nothing.ensures ∙ exactly_refused _ _ _ c.decode-e.ensures c.in_default.is

pub returns-then-e-t : goal.returns-then-e-t
returns-then-e-t c = c.nothing-then-e-t.ensures ∙ exactly_other _ _ _ c.decode-e.ensures c.in-Accepted.is (λ e. omega arith)

pub returns : goal.returns
returns c = exactly-found _ _ _ c.decode-e.ensures (omega arith)
