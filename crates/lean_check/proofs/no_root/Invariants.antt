-- The loop's invariant: the places from `at` on decide. Assumes nothing.
use mathlib.Core.Path.{◌≡◌}
use Prim.Native.Nat.{◌-◌, ◌≤◌}
use lib.ListN.{drop}
use Rattle.key.specs.Parts.{no_root}
use Rattle.lean_check.proofs.no_root.Given as goal

abbrev pub invariant-loop-at : goal.invariant-loop-at
invariant-loop-at l = (l.at ≤ l.n) × (no_root l.m l.g (drop l.at l.s) ≡ no_root l.m l.g l.s)

abbrev pub decreases-loop-at : goal.decreases-loop-at
decreases-loop-at l = l.n - l.at
