-- `transform::everywhere::ascend` meets its contract. Assumes nothing.
use mathlib.Core.Path.{◌≡◌}
use Prim.Native.Nat.{◌≤◌}
use lib.ListN.{length}
use Rattle.transform.specs.Values.{joins_of}
use Rattle.transform.proofs.everywhere.ascend.Given as goal

abbrev pub invariant-loop-j : goal.invariant-loop-j
invariant-loop-j l = (l.j ≤ l.k) × (length l.d ≡ length l.initial.d) × (joins_of l.m l.j l.d ≡ joins_of l.m l.k l.initial.d)

abbrev pub decreases-loop-j : goal.decreases-loop-j
decreases-loop-j l = l.j
