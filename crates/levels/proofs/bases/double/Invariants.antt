-- `levels::bases::double` meets its contract. Assumes nothing.
use mathlib.Core.Path.{◌≡◌}
use Prim.Native.Nat.{◌-◌, ◌≤◌}
use lib.ListN.{length}
use Rattle.levels.proofs.Loops.{doubled_to}
use Rattle.levels.proofs.Loops.{doubled_to}
use Rattle.levels.proofs.bases.double.Given as goal

abbrev pub invariant-loop-i : goal.invariant-loop-i
invariant-loop-i l = (l.i ≤ l.w) × (length l.g ≡ length l.initial.g) × (l.g ≡ doubled_to l.w l.x l.initial.g l.i)

abbrev pub decreases-loop-i : goal.decreases-loop-i
decreases-loop-i l = l.w - l.i
