-- Zeros, and the elements over them. Assumes nothing.
use mathlib.Core.Path.{◌∙◌}
use Rattle.key_file.proofs.Files.{stored_fill}
use Rattle.key_file.proofs.write_support.Goals as goal

pub returns : goal.returns
returns c = c.fill.ensures ∙ stored_fill 8192 _ 3 _ c.smaller-count.ensures
