-- `boundary::element_number` meets its contract. Assumes nothing.
use borrow.Author.Rules.{rules}
use Rattle.boundary.specs.Boundary.{as_element}
use Rattle.boundary.proofs.element_number.Goals as goal

pub returns-in-Value : goal.returns-in-Value
unfolding as_element
returns-in-Value c = search rules

pub returns-in-Refused : goal.returns-in-Refused
unfolding as_element
returns-in-Refused c = search rules
