-- The lines, then the total. Assumes nothing.
use native.Mathlib.Omega.{arith}
use Rattle.records.specs.Records.{capsules_of}
use Rattle.opener.specs.Report.{lines, total_line}
use Rattle.opener.specs.Prepared.{slot_a}
use Rattle.opener.proofs.Written.{joined, same_text}
use Rattle.opener.proofs.Shape.{four}
use Rattle.opener.proofs.Lengths.{lines_short}
use Rattle.opener.proofs.Total.{opened_most, total_few, opened-parts}
use Rattle.opener.proofs.opened.Goals as goal

pub total_line-requires : goal.total_line-requires
total_line-requires c =
    let o = c.opened_count-opened.ensures in
    let n = c.capsule_count-total.ensures in
    let v = slot_a c.args.station in
    let i = c.args.input.now in
    (opened_most v i n o, omega (arith, c.lines-at.ensures.place, lines_short v (four _ c.requires.0) i c.requires.1, total_few v i n o c.requires.1))

pub returns : goal.returns
returns c =
    let t = c.total_line.ensures in
    let o = c.opened_count-opened.ensures in
    let n = c.capsule_count-total.ensures in
    let v = slot_a c.args.station in
    let i = c.args.input.now in
    record {
      text = same_text (opened-parts v i n o) (joined (lines v 1 (capsules_of v.key i)) (total_line _ _) c.lines-at.ensures t);
      fits = omega (arith, t.place, c.lines-at.ensures.place, lines_short v (four _ c.requires.0) i c.requires.1, total_few v i n o c.requires.1);
    }
