-- The byte, or nothing past the end. Assumes nothing.
use mathlib.Core.Path.{sym}
use lib.ListN.{get_or-eq_default}
use Rattle.vectors.proofs.line.letter.Goals as goal

pub returns-else-i-line : goal.returns-else-i-line
returns-else-i-line c = sym (get_or-eq_default c.args.line.now 0 c.if-i-line.false)
