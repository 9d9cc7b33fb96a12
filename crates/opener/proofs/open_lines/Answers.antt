-- The test of the key, then the lines of the first bytes. Assumes nothing.
use mathlib.Core.Path.{sym, ap, ◌∙◌}
use native.Mathlib.Nat.{min-le_left}
use native.Mathlib.Omega.{arith}
use lib.ListN.{length}
use Rattle.opener.specs.Report.{opened}
use Rattle.opener.specs.Prepared.{slot_a}
use Rattle.opener.proofs.Written.{printed, printed_nothing, same_printed}
use Rattle.opener.proofs.Capsules.{taken, taken_length}
use Rattle.opener.proofs.Stages.{lines_none, lines-four}
use Rattle.opener.proofs.open_lines.Goals as goal

pub returns-then-not-is_four : goal.returns-then-not-is_four
returns-then-not-is_four c =
    let a = c.args in
    same_printed (sym (lines_none (slot_a a.station) a.input.now (sym c.is_four.ensures ∙ c.if-not-is_four.true))) (printed_nothing a.out.now)

pub slice_bounds-opened-end : goal.slice_bounds-opened-end
slice_bounds-opened-end c = sym (taken_length 65536 c.args.input.now c.smaller-i.ensures)

pub opened-requires : goal.opened-requires
opened-requires c =
    let n = c.smaller-i in
    let a = c.args in
    (sym c.is_four.ensures ∙ c.if-not-is_four.false, omega (arith, taken_length 65536 a.input.now n.ensures, n.ensures, min-le_left 65536 (length a.input.now)))

pub returns : goal.returns
returns c =
    let l = c.opened.ensures in
    let n = c.smaller-i in
    let a = c.args in
    let e =
    lines-four (slot_a a.station) a.input.now (sym c.is_four.ensures ∙ c.if-not-is_four.false)
    ∙ ap (opened (slot_a a.station)) (sym (taken 65536 a.input.now n.ensures)) in
    same_printed (sym e) (printed l.text l.fits)
