-- `power_sums::totals::summed` meets its contract. Assumes nothing.
use mathlib.Core.Path.{ap, ◌∙◌}
use native.Mathlib.Omega.{arith}
use lib.ListN.{length}
use Rattle.field.proofs.Table.{width_narrow}
use Rattle.levels.proofs.Filled.{levels_tops, levels_factors}
use Rattle.levels.proofs.TwoPowers.{two_below}
use Rattle.power_sums.proofs.Summing.{heap_size, length-heaped, summed_form}
use Rattle.power_sums.proofs.totals.summed.Goals as goal

pub fold_down-requires : goal.fold_down-requires
fold_down-requires c = (c.requires.0, c.requires.1, c.requires.3, levels_factors c.args.m c.requires.0 c.of-l.ensures c.args.k c.requires.1 c.requires.2)

pub heap-requires : goal.heap-requires
heap-requires c =
    let a = c.args in
    let n = width_narrow _ c.requires.0 in
    heap_size a.m c.requires.0 a.k c.two.result a.d.now _ c.requires.3 c.requires.1 (two_below _ c.two.ensures (omega arith)) c.fold_down.ensures c.requires.4

pub merge_up-requires : goal.merge_up-requires
merge_up-requires c =
    let a = c.args in (
      c.requires.0,
      c.requires.1,
      c.requires.2,
      ap length c.heap.ensures ∙ length-heaped a.m c.two.result (length a.c.now) _ ∙ c.requires.4,
      levels_tops a.m c.requires.0 c.of-l.ensures a.k c.requires.1 c.requires.2,
    )

pub returns : goal.returns
returns c =
    let a = c.args in
    let n = width_narrow _ c.requires.0 in
    summed_form a.m c.requires.0 a.k c.two.result _ a.d.now _ _ _ c.requires.3 c.requires.1 (two_below _ c.two.ensures (omega arith)) c.requires.4
    c.fold_down.ensures c.heap.ensures c.merge_up.ensures
