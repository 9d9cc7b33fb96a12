-- `decoding::nothing` meets its contract. Assumes nothing.
use borrow.Author.Rules.{rules}
use Rattle.decoding.specs.Parts.{nothing_of}
use Rattle.decoding.proofs.decoding.nothing.Goals as goal

pub returns : goal.returns
unfolding nothing_of
returns c = search rules
