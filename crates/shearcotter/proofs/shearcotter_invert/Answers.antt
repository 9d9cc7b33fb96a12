-- The field's answer as a struct. Assumes nothing.
use mathlib.Core.Path.{ap, ◌∙◌}
use Rattle.boundary.specs.Boundary.{as_element}
use Rattle.shearcotter.proofs.shearcotter_invert.Goals as goal

pub returns : goal.returns
returns c = c.as_element.ensures ∙ ap as_element c.invert.ensures
