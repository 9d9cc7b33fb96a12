-- Assumes nothing.
use mathlib.Core.Path.{ap, ◌∙◌}
use Rattle.bits.specs.Bits.{bytes_for}
use Rattle.network_writing.proofs.row_length.Goals as goal

pub returns : goal.returns
returns c = c.bytes_for.ensures ∙ ap bytes_for c.switches.ensures
