-- The loop's invariant: the first i places are done. Assumes nothing.
use mathlib.Core.Path.{◌≡◌}
use Prim.Native.Nat.{◌-◌, ◌≤◌}
use lib.ListN.{length}
use Rattle.field.proofs.PointTable.{combined_to}
use Rattle.field_places.proofs.horner_with.Given as goal

abbrev pub invariant-loop-i : goal.invariant-loop-i
invariant-loop-i l = (l.i ≤ l.n) × (length l.r ≡ length l.initial.r) × (l.r ≡ combined_to l.t l.c l.initial.r l.i)

abbrev pub decreases-loop-i : goal.decreases-loop-i
decreases-loop-i l = l.n - l.i
