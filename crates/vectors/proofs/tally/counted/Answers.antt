-- One store, by whether the case agrees. Assumes nothing.
use mathlib.Core.Path.{refl}
use Rattle.vectors.specs.Tallies.{one_more, counted_of}
use Rattle.vectors.proofs.tally.counted.Goals as goal

pub returns-then-agrees : goal.returns-then-agrees
unfolding counted_of one_more
returns-then-agrees c = rw c.if-agrees.true refl

pub returns : goal.returns
unfolding counted_of one_more
returns c = rw c.if-agrees.false refl
