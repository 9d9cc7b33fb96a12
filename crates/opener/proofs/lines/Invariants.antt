-- The invariant: the lines that are left, written behind the others, give all lines. Assumes nothing.
use mathlib.Core.Path.{◌≡◌}
use Prim.Native.Nat.{◌+◌, ◌-◌, ◌≤◌}
use lib.ListN.{length}
use Rattle.records.specs.Records.{capsules_of}
use Rattle.opener.specs.Report.{lines}
use Rattle.opener.specs.Prepared.{slot_a}
use Rattle.opener.proofs.Written.{Left}
use Rattle.opener.proofs.Capsules.{lines_left}
use Rattle.opener.proofs.lines.Given as goal

abbrev pub invariant-loop-i : goal.invariant-loop-i
invariant-loop-i l =
    (length l.out ≡ length l.initial.out) × (l.p ≤ l.i + 1) × Left (lines_left (slot_a l.station) l.c l.p l.input l.i) l.out l.at (lines (slot_a l.station) 1 (capsules_of (slot_a l.station).key l.input)) l.initial.out 0

abbrev pub decreases-loop-i : goal.decreases-loop-i
decreases-loop-i l = length l.input - l.i
