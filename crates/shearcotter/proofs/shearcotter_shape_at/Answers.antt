-- The shape's answer as a struct. Assumes nothing.
use mathlib.Core.Path.{ap, ◌∙◌}
use Rattle.boundary.specs.Boundary.{as_shape}
use Rattle.shearcotter.proofs.shearcotter_shape_at.Goals as goal

pub returns : goal.returns
returns c = c.as_shape.ensures ∙ ap as_shape c.shape.ensures
