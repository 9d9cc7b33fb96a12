-- `key::checks::no_root` meets its contract. Assumes nothing.
use Rattle.key.proofs.checks.no_root.Goals as goal

pub no_root_of_few-requires : goal.no_root_of_few-requires
no_root_of_few-requires c = (c.requires.0, c.if-s-le64.true)

pub returns-then-s-le64 : goal.returns-then-s-le64
returns-then-s-le64 c = c.no_root_of_few.ensures

pub no_root_of_many-requires : goal.no_root_of_many-requires
no_root_of_many-requires c = c.requires

pub returns : goal.returns
returns c = c.no_root_of_many.ensures
