-- `field::number` meets its contract. Assumes nothing.
use borrow.Author.Rules.{rules}
use Rattle.field.specs.Verdicts.{number_of}
use Rattle.field.proofs.number.Goals as goal

pub returns-in-Accepted : goal.returns-in-Accepted
unfolding number_of
returns-in-Accepted c = search rules

pub returns-in-Refused : goal.returns-in-Refused
unfolding number_of
returns-in-Refused c = search rules
