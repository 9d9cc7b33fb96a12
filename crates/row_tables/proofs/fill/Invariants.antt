-- The loop's invariant: q rows are made, and the other columns are as they were. Assumes nothing.
use mathlib.Core.Path.{◌≡◌}
use mathlib.Core.Logic.{◌⊎◌}
use Prim.Native.Nat.{ℕ, ◌+◌, ◌-◌, ◌%◌, ◌≤◌, ◌<◌}
use lib.ListN.{get_or}
use Rattle.row_tables.specs.Making.{Columns}
use Rattle.row_tables.proofs.fill.Given as goal

abbrev pub invariant-loop-q : goal.invariant-loop-q
invariant-loop-q l = (0 < l.q) × (l.q ≤ 40) × Columns l.m l.a l.h l.q l.p × ((x : ℕ) → (x % 128 < l.h) ⊎ (l.h + 64 ≤ x % 128) → get_or l.p x 0 ≡ get_or l.initial.p x 0)

abbrev pub decreases-loop-q : goal.decreases-loop-q
decreases-loop-q l = 40 - l.q
