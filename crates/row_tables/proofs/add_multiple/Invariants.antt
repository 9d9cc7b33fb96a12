-- The loop's invariant: the first i places are done; where the four rows start. Assumes nothing.
use mathlib.Core.Path.{◌≡◌}
use Prim.Native.Nat.{◌-◌, ◌≤◌}
use lib.ListN.{length}
use Rattle.row_tables.proofs.RowTable.{Starts, added_to}
use Rattle.row_tables.proofs.add_multiple.Given as goal

abbrev pub invariant-loop-i : goal.invariant-loop-i
invariant-loop-i l = (l.i ≤ l.n) × (length l.r ≡ length l.initial.r) × (l.r ≡ added_to l.t l.c l.initial.r l.i) × Starts l.c l.p l.q l.u l.v

abbrev pub decreases-loop-i : goal.decreases-loop-i
decreases-loop-i l = l.n - l.i
