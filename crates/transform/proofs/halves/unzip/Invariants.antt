-- `transform::halves::unzip` meets its contract. Assumes nothing.
use mathlib.Core.Path.{◌≡◌}
use Prim.Native.Nat.{◌-◌, ◌≤◌}
use lib.ListN.{length, take, drop}
use Rattle.transform.proofs.Loops.{both_to}
use Rattle.transform.specs.Halves.{unzip}
use Rattle.transform.proofs.halves.unzip.Given as goal

abbrev pub invariant-loop-i : goal.invariant-loop-i
invariant-loop-i l = (l.i ≤ l.h) × (length l.c ≡ length l.initial.c) × (l.c ≡ both_to (unzip l.t).0 (unzip l.t).1 (take l.h l.initial.c) (drop l.h l.initial.c) l.i)

abbrev pub decreases-loop-i : goal.decreases-loop-i
decreases-loop-i l = l.h - l.i
