-- `slot::is_empty` meets its contract. Assumes nothing.
use Rattle.slot.proofs.States.{empty_byte}
use Rattle.slot.proofs.is_empty.Goals as goal

pub returns : goal.returns
returns c = empty_byte _
