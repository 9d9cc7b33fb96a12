-- The part that is lent is the capsule. Assumes nothing.
use mathlib.Core.Path.{◌≡◌, ap}
use Prim.Native.Nat.{◌+◌, ◌-◌}
use lib.ListN.{take, drop}
use Rattle.records.proofs.Cut.{take_within}
use Rattle.opener.specs.Report.{line}
use Rattle.opener.specs.Prepared.{slot_a}
use Rattle.opener.proofs.Written.{same_text}
use Rattle.opener.proofs.line_at.Goals as goal

pub line-requires : goal.line-requires
line-requires c =
    let a = c.args in
    let e : take (a.i + c.smaller.result - a.i) (drop a.i a.input.now) ≡ take a.c (drop a.i a.input.now) =
    take_within a.c a.i a.input.now c.smaller.ensures in
    rw e c.requires.input_bound

pub returns : goal.returns
returns c =
    let a = c.args in
    let e = take_within a.c a.i a.input.now c.smaller.ensures in
    same_text (ap (line (slot_a a.station) a.p) e) c.line.ensures
