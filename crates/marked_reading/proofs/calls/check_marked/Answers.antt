-- The key, then the rows and the output. Assumes nothing.
use mathlib.Core.Path.{ap, ◌∙◌}
use Rattle.field.specs.Verdicts.{verdict_of}
use Rattle.field.proofs.Verdicts.{refuses, verdict_accepted, verdict_refused}
use Rattle.key.specs.Kept.{kept, parts}
use Rattle.marked_reading.proofs.Refusals.{wrong_key, key_passed}
use Rattle.marked_reading.proofs.calls.check_marked.Goals as goal

pub returns-in_default : goal.returns-in_default
returns-in_default c =
    let a = c.args in
    let k = parts a.m a.n a.t a.support.now a.g.now in
    let h = verdict_refused _ c.check.ensures c.in_default.is in
    refuses (wrong_key (kept k) a.word.now a.marks.now a.len h)

pub returns : goal.returns
unfolding kept
returns c =
    let a = c.args in
    let k = parts a.m a.n a.t a.support.now a.g.now in
    let z = verdict_accepted _ c.check.ensures c.in-Accepted.is in
    c.check_rows.ensures ∙ ap verdict_of (key_passed (kept k) a.word.now a.marks.now a.len z)
