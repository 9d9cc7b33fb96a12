-- `transform::halves::split` meets its contract. Assumes nothing.
use mathlib.Core.Path.{ap, ◌∙◌}
use lib.ListN.{length}
use Rattle.levels.proofs.Twists.{length-twisted_by}
use Rattle.transform.proofs.Wholes.{split_form}
use Rattle.transform.proofs.Lengths.{length-expanded}
use Rattle.transform.specs.Halves.{expanded}
use Rattle.levels.specs.Twist.{twisted_by}
use Rattle.transform.proofs.halves.split.Goals as goal

pub part-requires : goal.part-requires
part-requires c =
    let a = c.args in (
      ap length (c.expand.ensures ∙ ap expanded c.twist.ensures) ∙ length-expanded (twisted_by a.m a.p.now a.c.now)
          ∙ length-twisted_by a.m a.p.now a.c.now ∙ c.requires.1,
      c.requires.3,
    )

pub returns : goal.returns
returns c =
    let a = c.args in
    split_form a.m a.p.now a.c.now _ _ _ c.twist.ensures c.expand.ensures c.part.ensures
