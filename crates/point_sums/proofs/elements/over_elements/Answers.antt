-- The first k of the sums over all elements, by the scattered weights. Assumes nothing.
use mathlib.Core.Path.{ap, ◌∙◌}
use Rattle.bits.specs.Bits.{padded}
use Rattle.point_sums.proofs.Scattered.{scattered_sums}
use Rattle.point_sums.proofs.elements.over_elements.Goals as goal

pub returns : goal.returns
returns c =
    let a = c.args in
    c.first.ensures
    ∙ ap (padded 256) (scattered_sums a.m c.requires.0 a.w.now a.points.now a.k c.requires.1 c.requires.2 _ _ c.scatter-d.ensures c.power_sums.ensures)
