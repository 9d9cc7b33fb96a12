-- The loop's invariant: r rows are done, and `at` is the place in the next. Assumes nothing.
use mathlib.Core.Path.{◌≡◌}
use Prim.Native.Nat.{suc, ◌+◌, ◌-◌, ◌*◌, ◌≤◌}
use Rattle.irreducible.specs.Ready.{Shifted}
use Rattle.irreducible.proofs.independence.add_unit.Given as goal

abbrev pub invariant-loop-r : goal.invariant-loop-r
invariant-loop-r l = (l.r ≤ l.n - 1) × (l.at ≡ l.r * l.n + suc l.r) × Shifted l.n l.r l.initial.rows l.rows

abbrev pub decreases-loop-r : goal.decreases-loop-r
decreases-loop-r l = l.n - l.r
