-- The bits' bytes. Assumes nothing.
use mathlib.Core.Path.{ap, ◌∙◌}
use Rattle.bits.specs.Bits.{bytes_for}
use Rattle.reading.proofs.calls.capsule_bytes.Goals as goal

pub returns : goal.returns
returns c = c.bytes_for.ensures ∙ ap bytes_for c.capsule_bits.ensures
