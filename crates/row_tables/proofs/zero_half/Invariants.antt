-- The loop's invariant: i numbers are 0. Assumes nothing.
use Prim.Native.Nat.{◌-◌, ◌≤◌}
use Rattle.row_tables.specs.Making.{Zeroed}
use Rattle.row_tables.proofs.zero_half.Given as goal

abbrev pub invariant-loop-i : goal.invariant-loop-i
invariant-loop-i l = (l.i ≤ 64) × Zeroed l.h l.i l.initial.p l.p

abbrev pub decreases-loop-i : goal.decreases-loop-i
decreases-loop-i l = 64 - l.i
