-- The two tests in order. Assumes nothing.
use mathlib.Core.Path.{sym, ◌∙◌}
use Rattle.field.proofs.Verdicts.{refuses, accepts}
use Rattle.key.proofs.Order.{failed, passed}
use Rattle.reading.proofs.Refusals.{wrong_length_lem, wrong_filler, row_right}
use Rattle.reading.proofs.calls.check_row.Goals as goal

pub returns-then-row-bytes_for : goal.returns-then-row-bytes_for
returns-then-row-bytes_for c = refuses (wrong_length_lem _ _ (λ e. c.if-row-bytes_for.true (e ∙ sym c.bytes_for.ensures)))

pub returns-then-not-filler_clear : goal.returns-then-not-filler_clear
returns-then-not-filler_clear c = refuses (wrong_filler _ _ (c.if-row-bytes_for.false ∙ c.bytes_for.ensures) (failed c.filler_clear.ensures c.if-not-filler_clear.true))

pub returns : goal.returns
returns c = accepts (row_right _ _ (c.if-row-bytes_for.false ∙ c.bytes_for.ensures) (passed c.filler_clear.ensures c.if-not-filler_clear.false))
