-- Zeros. Assumes nothing.
use mathlib.Core.Path.{refl}
use Rattle.vectors.specs.Tallies.{no_cases}
use Rattle.vectors.proofs.tally.none.Goals as goal

pub returns : goal.returns
unfolding no_cases
returns c = refl
