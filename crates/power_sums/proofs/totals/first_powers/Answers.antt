-- `power_sums::totals::first_powers` meets its contract. Assumes nothing.
use mathlib.Core.Path.{sym, ◌∙◌}
use native.Mathlib.Omega.{arith}
use borrow.Author.Rules.{rules}
use Rattle.field.proofs.Table.{width_narrow}
use Rattle.levels.proofs.TwoPowers.{two_below}
use Rattle.power_sums.proofs.Summing.{fewest, weights_prefix, sums_prefix, sums_form}
use Rattle.power_sums.proofs.totals.first_powers.Goals as goal

pub slice_bounds-d-end : goal.slice_bounds-d-end
slice_bounds-d-end c =
    let n = width_narrow _ c.requires in
    (weights_prefix c.args.m c.requires c.least-k.result c.args.w c.least-k.ensures n (two_below _ c.two-top.ensures n) (search rules)).0

pub slice_bounds-summed-end : goal.slice_bounds-summed-end
slice_bounds-summed-end c =
    let n = width_narrow _ c.requires in
    sym (weights_prefix c.args.m c.requires c.least-k.result c.args.w c.least-k.ensures n (two_below _ c.two-top.ensures n) (search rules)).1

pub slice_bounds-c-end : goal.slice_bounds-c-end
slice_bounds-c-end c =
    let f = fewest c.args.m c.requires c.least-k.result c.args.w c.least-k.ensures in
    (sums_prefix c.args.m c.requires c.least-k.result c.args.w c.least-k.ensures (two_below _ c.two-n.ensures (omega (arith, f.1)))).0

pub slice_bounds-summed-end-2 : goal.slice_bounds-summed-end-2
slice_bounds-summed-end-2 c =
    let f = fewest c.args.m c.requires c.least-k.result c.args.w c.least-k.ensures in
    sym (sums_prefix c.args.m c.requires c.least-k.result c.args.w c.least-k.ensures (two_below _ c.two-n.ensures (omega (arith, f.1)))).1

pub summed-requires : goal.summed-requires
summed-requires c =
    let n = width_narrow _ c.requires in
    let f = fewest c.args.m c.requires c.least-k.result c.args.w c.least-k.ensures in
    let eu = two_below _ c.two-top.ensures n in
    let et = two_below _ c.two-n.ensures (omega (arith, f.1)) in (
      c.requires,
      f.0,
      omega (arith, f.1),
      (weights_prefix c.args.m c.requires c.least-k.result c.args.w c.least-k.ensures n eu (search rules)).1 ∙ eu,
      (sums_prefix c.args.m c.requires c.least-k.result c.args.w c.least-k.ensures et).1 ∙ et,
    )

pub returns : goal.returns
returns c =
    let n = width_narrow _ c.requires in
    let f = fewest c.args.m c.requires c.least-k.result c.args.w c.least-k.ensures in
    sums_form c.args.m c.requires c.least-k.result c.args.w c.least-k.ensures c.two-n.result c.two-top.result _
    (two_below _ c.two-n.ensures (omega (arith, f.1))) (two_below _ c.two-top.ensures n) c.summed.ensures
