-- Zeros. Assumes nothing.
use mathlib.Core.Path.{refl}
use Rattle.vectors.specs.Lines.{no_bytes}
use Rattle.vectors.proofs.line.no_bytes.Goals as goal

pub returns : goal.returns
unfolding no_bytes
returns c = refl
