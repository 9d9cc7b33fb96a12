-- The loop's invariant: b was equal modulo g to its j lower coefficients as they are now. Assumes nothing.
use mathlib.Core.Path.{◌≡◌}
use Prim.Native.Nat.{◌+◌, ◌≤◌}
use lib.ListN.{length}
use Rattle.irreducible.specs.Residues.{Reduced}
use Rattle.irreducible.proofs.residues.reduce.Given as goal

abbrev pub invariant-loop-j : goal.invariant-loop-j
invariant-loop-j l = (l.n ≤ l.j) × (l.j ≤ l.n + l.n) × (length l.b ≡ l.n + l.n) × Reduced l.t l.n l.j l.initial.b l.b

abbrev pub decreases-loop-j : goal.decreases-loop-j
decreases-loop-j l = l.j
