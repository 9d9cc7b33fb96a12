-- The verdict, then what is found. Assumes nothing.
use mathlib.Core.Path.{refl, ◌∙◌}
use borrow.Author.Tests.{not-true, not-false}
use Rattle.field.proofs.Verdicts.{number_refused}
use Rattle.reading.specs.Answers.{answer_by, counted_of, written_by, given_of}
use Rattle.reading.proofs.calls.given.Goals as goal

pub returns-in_default : goal.returns-in_default
unfolding counted_of answer_by given_of written_by
returns-in_default c = let h = c.in_default.is in rw (c.number.ensures ∙ number_refused h, h) (record { answer = refl; output = refl })

pub returns-then-not-e : goal.returns-then-not-e
unfolding counted_of answer_by given_of written_by
returns-then-not-e c = rw (c.in-Accepted.is, not-true _ c.if-not-e.true) (record { answer = refl; output = refl })

pub returns : goal.returns
unfolding counted_of answer_by given_of written_by
returns c = rw (c.in-Accepted.is, not-false _ c.if-not-e.false) (record { answer = refl; output = c.write_row.ensures })
