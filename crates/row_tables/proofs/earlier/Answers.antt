-- `row_tables::earlier` meets its contract. Assumes nothing.
use borrow.Author.Rules.{rules}
use Rattle.row_tables.specs.Making.{earlier_rows}
use Rattle.row_tables.proofs.earlier.Goals as goal

pub returns : goal.returns
unfolding earlier_rows
returns c = search rules
