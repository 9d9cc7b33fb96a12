-- `row_tables::digit` meets its contract. Assumes nothing.
use borrow.Author.Rules.{rules}
use Rattle.row_tables.specs.Making.{digit_places}
use Rattle.row_tables.proofs.digit.Goals as goal

pub returns : goal.returns
unfolding digit_places
returns c = search rules
