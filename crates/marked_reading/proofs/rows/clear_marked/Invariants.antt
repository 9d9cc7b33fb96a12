-- The loop's invariant: the bits that the first i bytes of the marks name are 0. Assumes nothing.
use mathlib.Core.Path.{◌≡◌}
use Prim.Native.Nat.{◌-◌, ◌≤◌}
use lib.ListN.{length, take}
use Rattle.marked_reading.specs.Parts.{cleared}
use Rattle.marked_reading.proofs.rows.clear_marked.Given as goal

abbrev pub invariant-loop-i : goal.invariant-loop-i
invariant-loop-i l = (l.i ≤ l.n) × (length l.row ≡ length l.initial.row) × (l.row ≡ cleared l.initial.row (take l.i l.marks))

abbrev pub decreases-loop-i : goal.decreases-loop-i
decreases-loop-i l = l.n - l.i
