-- The first byte, where there is one. Assumes nothing.
use Rattle.opener.proofs.Text.{large_empty, large_twelve, large_other}
use Rattle.opener.proofs.large.Goals as goal

pub returns-then-file-eq0 : goal.returns-then-file-eq0
returns-then-file-eq0 c = large_empty c.args.file.now c.if-file-eq0.true

pub returns-then-m-eq12 : goal.returns-then-m-eq12
returns-then-m-eq12 c = large_twelve c.args.file.now c.if-m-eq12.true

pub returns-else-m-eq12 : goal.returns-else-m-eq12
returns-else-m-eq12 c = large_other c.args.file.now c.if-m-eq12.false
