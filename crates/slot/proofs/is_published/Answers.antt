-- `slot::is_published` meets its contract. Assumes nothing.
use Rattle.slot.proofs.States.{published_byte}
use Rattle.slot.proofs.is_published.Goals as goal

pub returns : goal.returns
returns c = published_byte _
