-- `power_sums::merging::merge` meets its contract. Assumes nothing.
use Rattle.power_sums.proofs.Summing.{merge_form}
use Rattle.power_sums.proofs.merging.merge.Goals as goal

pub mingle-requires : goal.mingle-requires
mingle-requires c = (c.requires.1, c.requires.3)

pub returns : goal.returns
returns c =
    let a = c.args in
    merge_form a.m a.h a.p.now a.c.now _ _ c.requires.1 c.mingle.ensures c.gather.ensures _ c.twist.ensures
