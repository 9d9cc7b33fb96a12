-- One store. Assumes nothing.
use mathlib.Core.Path.{refl}
use Rattle.vectors.specs.Lines.{with_byte}
use Rattle.vectors.proofs.line.with.Goals as goal

pub returns : goal.returns
unfolding with_byte
returns c = refl
