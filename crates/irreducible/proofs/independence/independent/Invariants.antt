-- The loop's invariant: i rows stand. Assumes nothing.
use mathlib.Core.Path.{◌≡◌}
use Prim.Native.Nat.{◌+◌, ◌-◌, ◌≤◌}
use lib.ListN.{length}
use Rattle.field.proofs.Table.{Width}
use Rattle.irreducible.specs.Ready.{Basis}
use Rattle.irreducible.proofs.independence.independent.Given as goal

abbrev pub invariant-loop-i : goal.invariant-loop-i
invariant-loop-i l = (l.i + 1 ≤ l.n) × (length l.rows ≡ 16384) × ((W : Width l.m) → Basis l.m W l.g l.i l.rows)

abbrev pub decreases-loop-i : goal.decreases-loop-i
decreases-loop-i l = l.n - l.i
