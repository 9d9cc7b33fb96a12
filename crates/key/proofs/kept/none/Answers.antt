-- `key::kept::none` meets its contract. Assumes nothing.
use mathlib.Core.Path.{refl}
use Rattle.key.specs.Kept.{no_key}
use Rattle.key.proofs.kept.none.Goals as goal

pub returns : goal.returns
unfolding no_key
returns c = refl
