-- `field::modulus` meets its contract. Assumes nothing.
use borrow.Author.Rules.{rules}
use lib.ListN.{get_or-eq_default}
use Rattle.field.specs.Field.{modulus_of}
use Rattle.field.proofs.modulus.Goals as goal

pub returns-then-m-lt14 : goal.returns-then-m-lt14
unfolding modulus_of
returns-then-m-lt14 c = search rules

pub returns-else-m-lt14 : goal.returns-else-m-lt14
unfolding modulus_of
returns-else-m-lt14 c = search (rules, get_or-eq_default)
