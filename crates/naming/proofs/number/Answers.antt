-- `naming::number` meets its contract. Assumes nothing.
use Rattle.naming.proofs.Picks.{pick_first, pick_second}
use Rattle.naming.proofs.number.Goals as goal

pub returns-then-name-eq-A : goal.returns-then-name-eq-A
returns-then-name-eq-A c = pick_first _ _ _ c.if-name-eq-A.true

pub returns : goal.returns
returns c = pick_second _ _ _ c.if-name-eq-A.false
