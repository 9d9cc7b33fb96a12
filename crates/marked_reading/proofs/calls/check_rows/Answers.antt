-- The word, its marks, then the output. Assumes nothing.
use mathlib.Core.Path.{ap, ◌∙◌}
use native.Mathlib.Omega.{arith}
use Rattle.field.specs.Verdicts.{verdict_of}
use Rattle.field.proofs.Verdicts.{refuses, verdict_accepted, verdict_refused}
use Rattle.key.proofs.Order.{failed, passed}
use Rattle.marked_reading.proofs.Refusals.{wrong_word, wrong_marks_lem, short_output, rows_right}
use Rattle.marked_reading.proofs.calls.check_rows.Goals as goal

pub returns-in_default : goal.returns-in_default
returns-in_default c =
    let r = c.check_row-x.ensures in
    r ∙ ap verdict_of (wrong_word _ _ _ _ (verdict_refused _ r c.in_default.is))

pub returns-then-not-well_formed : goal.returns-then-not-well_formed
returns-then-not-well_formed c =
    let z = verdict_accepted _ c.check_row-x.ensures c.in-Accepted.is in
    refuses (wrong_marks_lem _ _ _ _ z (failed c.well_formed-2.ensures c.if-not-well_formed.true))

pub returns-then-len-bytes_for : goal.returns-then-len-bytes_for
returns-then-len-bytes_for c =
    let z = verdict_accepted _ c.check_row-x.ensures c.in-Accepted.is in
    refuses (short_output _ _ _ _ z (passed c.well_formed-2.ensures c.if-not-well_formed.false) (omega (arith, c.bytes_for.ensures)))

pub returns : goal.returns
returns c =
    let r = c.check_row-x.ensures in
    let z = verdict_accepted _ r c.in-Accepted.is in
    r
    ∙ ap verdict_of (z ∙ rows_right _ _ _ _ z (passed c.well_formed-2.ensures c.if-not-well_formed.false) (omega (arith, c.bytes_for.ensures)))
