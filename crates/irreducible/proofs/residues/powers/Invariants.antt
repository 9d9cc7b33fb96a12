-- The loop's invariant: r rows have their powers, and w is the next. Assumes nothing.
use mathlib.Core.Path.{◌≡◌}
use Prim.Native.Nat.{◌+◌, ◌-◌, ◌*◌, ◌≤◌}
use lib.ListN.{take}
use Rattle.row_tables.specs.RowTable.{table_of}
use Rattle.irreducible.specs.Residues.{Powers}
use Rattle.irreducible.proofs.PowerRows.{Row}
use Rattle.irreducible.proofs.residues.powers.Given as goal

abbrev pub invariant-loop-r : goal.invariant-loop-r
invariant-loop-r l = (l.r + 1 ≤ l.n) × (l.at ≡ l.r * l.n) × Row l.m l.g l.r l.w × Row l.m l.g 0 l.initial.w × (l.t ≡ table_of l.m l.g) × (l.s ≡ table_of l.m (take l.n l.initial.w)) × Powers l.m l.g l.r l.rows

abbrev pub decreases-loop-r : goal.decreases-loop-r
decreases-loop-r l = l.n - l.r
