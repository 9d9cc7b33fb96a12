-- `decoding::places::mark` meets its contract. Assumes nothing.
use borrow.Author.Tests.{eq-eqb, ne_eqb}
use Rattle.decoding.specs.Parts.{mark as mark_of}
use Rattle.decoding.proofs.places.mark.Goals as goal

pub returns-then-v-eq0 : goal.returns-then-v-eq0
unfolding mark_of
returns-then-v-eq0 c = rw (eq-eqb _ _ c.if-v-eq0.true)

pub returns-else-v-eq0 : goal.returns-else-v-eq0
unfolding mark_of
returns-else-v-eq0 c = rw (ne_eqb _ _ c.if-v-eq0.false)
