-- The number and zeros. Assumes nothing.
use mathlib.Core.Path.{refl}
use Rattle.session_key.specs.Answers.{refused_key}
use Rattle.session_key.proofs.refuse.Goals as goal

pub returns : goal.returns
unfolding refused_key
returns c = refl
