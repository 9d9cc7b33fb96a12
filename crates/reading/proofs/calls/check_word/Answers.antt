-- The key, then the buffers. Assumes nothing.
use mathlib.Core.Path.{ap, ◌∙◌}
use Rattle.field.specs.Verdicts.{verdict_of}
use Rattle.field.proofs.Verdicts.{refuses, verdict_accepted, verdict_refused}
use Rattle.key.specs.Kept.{kept, parts}
use Rattle.reading.proofs.Refusals.{read_unsound, read_sound}
use Rattle.reading.proofs.calls.check_word.Goals as goal

pub returns-in_default : goal.returns-in_default
returns-in_default c =
    let a = c.args in
    let k = parts a.m a.n a.t a.support.now a.g.now in
    refuses (read_unsound (kept k) a.word.now a.len (verdict_refused _ c.check.ensures c.in_default.is))

pub returns : goal.returns
unfolding kept
returns c =
    let a = c.args in
    let k = parts a.m a.n a.t a.support.now a.g.now in
    c.check_buffers.ensures
    ∙ ap verdict_of (read_sound (kept k) a.word.now a.len (verdict_accepted _ c.check.ensures c.in-Accepted.is))
