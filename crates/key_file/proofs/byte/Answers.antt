-- `key_file::byte` meets its contract. Assumes nothing.
use mathlib.Core.Path.{refl, sym}
use lib.ListN.{get_or-eq_default}
use Rattle.key_file.proofs.byte.Goals as goal

pub returns-then-i-file : goal.returns-then-i-file
returns-then-i-file c = refl

pub returns-else-i-file : goal.returns-else-i-file
returns-else-i-file c = sym (get_or-eq_default c.args.file.now 0 c.if-i-file.false)
