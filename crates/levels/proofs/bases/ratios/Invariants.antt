-- `levels::bases::ratios` meets its contract: the inverse is not refused, since the number behind the first n is a unit. Assumes nothing.
use mathlib.Core.Path.{◌≡◌}
use Prim.Native.Nat.{◌-◌, ◌≤◌}
use lib.ListN.{length}
use Rattle.field.specs.Field.{mul}
use Rattle.levels.proofs.Loops.{each_to}
use Rattle.levels.proofs.bases.ratios.Given as goal

abbrev pub invariant-loop-i : goal.invariant-loop-i
invariant-loop-i l = (l.i ≤ l.n) × (length l.r ≡ 16) × (l.r ≡ each_to (λ y. mul l.m y l.v) l.n l.initial.r l.i)

abbrev pub decreases-loop-i : goal.decreases-loop-i
decreases-loop-i l = l.n - l.i
