-- The part that is lent is the first bytes of the file. Assumes nothing.
use mathlib.Core.Path.{sym, ap, ◌∙◌}
use Rattle.opener.specs.Prepared.{prepared_whole, prepared}
use Rattle.opener.proofs.Capsules.{taken, taken_length}
use Rattle.opener.proofs.prepare.Goals as goal

pub slice_bounds-prepare_whole-end : goal.slice_bounds-prepare_whole-end
slice_bounds-prepare_whole-end c = sym (taken_length 4096 c.args.file.now c.smaller-f.ensures)

pub returns : goal.returns
unfolding prepared
returns c =
    let n = c.smaller-f in
    c.prepare_whole.ensures ∙ ap prepared_whole (taken 4096 c.args.file.now n.ensures)
