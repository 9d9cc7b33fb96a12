-- The loop's invariant: i numbers are put. Assumes nothing.
use Prim.Native.Nat.{◌-◌, ◌≤◌}
use Rattle.row_tables.specs.Making.{Put}
use Rattle.row_tables.proofs.put_half.Given as goal

abbrev pub invariant-loop-i : goal.invariant-loop-i
invariant-loop-i l = (l.i ≤ 64) × Put l.t l.j l.s l.at l.i l.initial.p l.p

abbrev pub decreases-loop-i : goal.decreases-loop-i
decreases-loop-i l = 64 - l.i
