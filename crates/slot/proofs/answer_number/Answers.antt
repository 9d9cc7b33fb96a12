-- `slot::answer_number` meets its contract. Assumes nothing.
use borrow.Author.Rules.{rules}
use Rattle.slot.specs.Replies.{answer_number}
use Rattle.slot.proofs.answer_number.Goals as goal

pub returns-in-Ones : goal.returns-in-Ones
unfolding answer_number
returns-in-Ones c = search rules

pub returns-in-Refused : goal.returns-in-Refused
unfolding answer_number
returns-in-Refused c = search rules
