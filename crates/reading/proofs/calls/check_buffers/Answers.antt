-- The row, then the output. Assumes nothing.
use mathlib.Core.Path.{ap, ◌∙◌}
use native.Mathlib.Omega.{arith}
use Rattle.field.specs.Verdicts.{verdict_of}
use Rattle.field.proofs.Verdicts.{refuses, verdict_accepted, verdict_refused}
use Rattle.reading.proofs.Refusals.{wrong_row, short_output, buffers_right}
use Rattle.reading.proofs.calls.check_buffers.Goals as goal

pub returns-in_default : goal.returns-in_default
returns-in_default c =
    let r = c.check_row-x.ensures in
    r ∙ ap verdict_of (wrong_row _ _ _ _ (verdict_refused _ r c.in_default.is))

pub returns-then-len-bytes_for : goal.returns-then-len-bytes_for
returns-then-len-bytes_for c = refuses (short_output _ _ _ _ (verdict_accepted _ c.check_row-x.ensures c.in-Accepted.is) (omega (arith, c.bytes_for.ensures)))

pub returns : goal.returns
returns c =
    let r = c.check_row-x.ensures in
    let z = verdict_accepted _ r c.in-Accepted.is in
    r ∙ ap verdict_of (z ∙ buffers_right _ _ _ _ z (omega (arith, c.bytes_for.ensures)))
