-- The correction by its two multiples. Assumes nothing.
use mathlib.Core.Path.{refl, ◌∙◌}
use Rattle.register.specs.Registered.{figure}
use Rattle.register.proofs.Across.{corrected_by}
use Rattle.register.proofs.correct.Goals as goal

pub returns : goal.returns
returns c =
    let a = c.args in
    c.add_multiple.ensures ∙ corrected_by a.m a.d (figure a.c.now a.b.now a.k) c.scale.ensures refl
