-- The word filled, decoded, then the differences. Assumes nothing.
use mathlib.Core.Path.{◌∙◌}
use Rattle.key.specs.Kept.{parts}
use Rattle.marked_reading.proofs.Readings.{try_found_lem}
use Rattle.marked_reading.proofs.tries.tried.Goals as goal

pub returns : goal.returns
returns c =
    let a = c.args in
    let k = parts a.m a.n a.t a.support.now a.g.now in
    c.as_differences.ensures ∙ try_found_lem k a.word.now a.marks.now a.one c.with_marked-filled.ensures c.decode-e.ensures
