-- The weight of the cleared copy. Assumes nothing.
use mathlib.Core.Path.{ap, ◌∙◌}
use Rattle.bits.specs.Bits.{ones, weight}
use Rattle.marks.specs.Marked.{differences}
use Rattle.marked_reading.proofs.Cleared.{unpack-cleared}
use Rattle.marked_reading.proofs.rows.differences.Goals as goal

pub returns : goal.returns
unfolding weight differences
returns c =
    let a = c.args in
    c.weight.ensures
    ∙ ap (weight a.n) c.clear_marked.ensures
    ∙ ap ones (unpack-cleared a.n a.pattern a.marks.now)
