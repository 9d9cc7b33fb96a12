-- The test, then the number of ones. Assumes nothing.
use Rattle.session_key.proofs.is_opened.Goals as goal

pub returns-then-found : goal.returns-then-found
returns-then-found c = rw c.if-found.true

pub returns-else-found : goal.returns-else-found
returns-else-found c = rw c.if-found.false
