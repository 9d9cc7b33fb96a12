-- The loop's invariant: b is y times r's first j coefficients. Assumes nothing.
use mathlib.Core.Path.{◌≡◌}
use mathlib.Core.List.{List}
use Prim.Native.Nat.{ℕ, ◌-◌, ◌≤◌}
use lib.ListN.{length}
use Rattle.field.proofs.Table.{Width}
use Rattle.row_tables.specs.RowTable.{table_of}
use Rattle.irreducible.proofs.Products.{Part}
use Rattle.irreducible.proofs.residues.products.Given as goal

abbrev pub invariant-loop-j : goal.invariant-loop-j
invariant-loop-j l = (l.j ≤ l.n) × (length l.b ≡ 256) × ((m : ℕ) (y : List ℕ) → Width m → l.s ≡ table_of m y → length y ≡ length l.r → Part m l.r y l.j (length y) l.b)

abbrev pub decreases-loop-j : goal.decreases-loop-j
decreases-loop-j l = l.n - l.j
