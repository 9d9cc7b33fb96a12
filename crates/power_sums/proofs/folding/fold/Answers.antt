-- `power_sums::folding::fold` meets its contract. Assumes nothing.
use mathlib.Core.Path.{sym, ap, ◌∙◌}
use native.Mathlib.Omega.{arith}
use lib.ListN.{length}
use Rattle.bits.proofs.Rows.{length-xor_row}
use Rattle.levels.proofs.Halves.{length-low, kept-fits, kept_low}
use Rattle.power_sums.proofs.Summing.{fold_form}
use Rattle.power_sums.proofs.folding.fold.Goals as goal

pub slice_bounds-add_each-end : goal.slice_bounds-add_each-end
slice_bounds-add_each-end c = omega (arith, c.requires.1)

pub slice_bounds-add_each-end-2 : goal.slice_bounds-add_each-end-2
slice_bounds-add_each-end-2 c = sym (length-low (length c.args.g.now) c.args.b.now c.requires.1)

pub slice_bounds-copy_each-end-2 : goal.slice_bounds-copy_each-end-2
slice_bounds-copy_each-end-2 c =
    let g = c.args.g.now in
    let b = c.args.b.now in
    kept-fits (length g) b c.requires.1 c.add_each.new.r (ap length c.add_each.ensures ∙ length-xor_row _ _ ∙ length-low (length g) b c.requires.1)

pub slice_bounds-copy_each-end-3 : goal.slice_bounds-copy_each-end-3
slice_bounds-copy_each-end-3 c =
    let g = c.args.g.now in
    let b = c.args.b.now in
    kept_low (length g) b c.requires.1 c.add_each.new.r (ap length c.add_each.ensures ∙ length-xor_row _ _ ∙ length-low (length g) b c.requires.1)

pub slice_bounds-add_each-count : goal.slice_bounds-add_each-count
slice_bounds-add_each-count c =
    let g = c.args.g.now in
    let b = c.args.b.now in
    kept-fits (length g) b c.requires.1 c.add_each.new.r (ap length c.add_each.ensures ∙ length-xor_row _ _ ∙ length-low (length g) b c.requires.1)

pub slice_bounds-add_each-start : goal.slice_bounds-add_each-start
slice_bounds-add_each-start c =
    let g = c.args.g.now in
    let b = c.args.b.now in
    kept-fits (length g) b c.requires.1 c.add_each.new.r (ap length c.add_each.ensures ∙ length-xor_row _ _ ∙ length-low (length g) b c.requires.1)

pub returns : goal.returns
returns c =
    let a = c.args in
    fold_form a.m c.requires.0 a.g.now a.b.now a.p.now c.requires.1 c.requires.2 c.copy_each.ensures c.add_each.ensures c.copy_each-2.ensures
    c.horner_each.ensures c.add_each-2.ensures
