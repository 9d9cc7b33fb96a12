-- `transform::everywhere::monic` meets its contract. Assumes nothing.
use Rattle.transform.proofs.Whole.{monic_block}
use Rattle.transform.proofs.everywhere.monic.Goals as goal

pub returns : goal.returns
returns c = monic_block c.args.g.now c.block-c.ensures c.requires
