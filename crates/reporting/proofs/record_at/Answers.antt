-- The part that is lent is the capsule. Assumes nothing.
use mathlib.Core.Path.{ap, ◌∙◌}
use Rattle.key.specs.Kept.{kept, parts}
use Rattle.records.specs.Records.{record_of}
use Rattle.records.proofs.Cut.{take_within}
use Rattle.reporting.proofs.record_at.Goals as goal

pub overflow_sub-capsules : goal.overflow_sub-capsules
overflow_sub-capsules c = c.requires.i_in_bounds

pub record_found-requires : goal.record_found-requires
record_found-requires c = c.requires.g_value

pub returns : goal.returns
returns c =
    let a = c.args in
    let k = parts a.m a.n a.t a.support.now a.g.now in
    c.record_found.ensures ∙ ap (record_of (kept k)) (take_within a.c a.i a.capsules.now c.smaller.ensures)
