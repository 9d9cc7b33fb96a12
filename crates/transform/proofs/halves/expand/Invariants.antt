-- `transform::halves::expand` meets its contract. Assumes nothing.
use mathlib.Core.Path.{◌≡◌}
use Prim.Native.Nat.{◌≤◌}
use lib.ListN.{length}
use Rattle.transform.proofs.Loops.{expanded_from}
use Rattle.transform.proofs.halves.expand.Given as goal

abbrev pub invariant-loop-i : goal.invariant-loop-i
invariant-loop-i l = (l.i ≤ length l.initial.c) × (length l.c ≡ length l.initial.c) × (l.c ≡ expanded_from l.i l.initial.c)

abbrev pub decreases-loop-i : goal.decreases-loop-i
decreases-loop-i l = l.i
