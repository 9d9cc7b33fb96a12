-- The points are chosen where they fit. Assumes nothing.
use mathlib.Core.Path.{refl}
use borrow.Author.Tests.{lt-leb, le-leb}
use Rattle.decoding.specs.Parts.{points_of}
use Rattle.decoding.proofs.decoding.word_points.Goals as goal

pub returns-then-support-gt-MOST_PLACES : goal.returns-then-support-gt-MOST_PLACES
unfolding points_of
returns-then-support-gt-MOST_PLACES c = rw (lt-leb _ _ c.if-support-gt-MOST_PLACES.true) (record { all = refl; number = refl })

pub chosen-requires : goal.chosen-requires
chosen-requires c = c.if-support-gt-MOST_PLACES.false

pub returns : goal.returns
unfolding points_of
returns c = rw (le-leb _ _ c.if-support-gt-MOST_PLACES.false) c.chosen.ensures
