-- The loop's invariant: i rows are done, and `at` is the place of the next. Assumes nothing.
use mathlib.Core.Path.{◌≡◌}
use Prim.Native.Nat.{◌+◌, ◌-◌, ◌*◌, ◌≤◌}
use Rattle.irreducible.specs.Rows.{Added}
use Rattle.irreducible.proofs.independence.add_column.Given as goal

abbrev pub invariant-loop-i : goal.invariant-loop-i
invariant-loop-i l = (l.i ≤ l.k) × (l.at ≡ (l.d + l.i) * l.n) × Added l.t l.n l.p l.d l.i l.initial.rows l.rows

abbrev pub decreases-loop-i : goal.decreases-loop-i
decreases-loop-i l = l.k - l.i
