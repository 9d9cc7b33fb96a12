-- `naming::is_name` meets its contract. Assumes nothing.
use Rattle.naming.proofs.Picks.{known-first, known_second}
use Rattle.naming.proofs.is_name.Goals as goal

pub returns-then-name-eq-A : goal.returns-then-name-eq-A
returns-then-name-eq-A c = known-first _ c.if-name-eq-A.true

pub returns-else-name-eq-A : goal.returns-else-name-eq-A
returns-else-name-eq-A c = known_second _ c.if-name-eq-A.false
