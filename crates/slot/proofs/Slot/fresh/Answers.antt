-- `slot::Slot::fresh` meets its contract. Assumes nothing.
use mathlib.Core.Path.{ap}
use Rattle.key.specs.declared.kept.Key.{Key}
use Rattle.ledger.specs.Slot.{empty}
use Rattle.slot.specs.Replies.{byte_of, fresh_slot}
use Rattle.slot.proofs.Slot.fresh.Goals as goal

pub returns : goal.returns
unfolding fresh_slot byte_of
returns c = ap (λ (k : Key). record { state = byte_of empty; key = k }) c.none.ensures
