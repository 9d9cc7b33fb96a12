-- `key::shape::number` meets its contract. Assumes nothing.
use borrow.Author.Rules.{rules}
use Rattle.key.specs.Answers.{answer_number}
use Rattle.key.proofs.shape.number.Goals as goal

pub returns-in-Sizes : goal.returns-in-Sizes
unfolding answer_number
returns-in-Sizes c = search rules

pub returns-in-Refused : goal.returns-in-Refused
unfolding answer_number
returns-in-Refused c = search rules
