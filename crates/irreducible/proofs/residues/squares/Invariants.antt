-- The loop's invariant: b is the square of r's first i coefficients. Assumes nothing.
use Prim.Native.Nat.{◌-◌, ◌≤◌}
use Rattle.irreducible.proofs.Products.{Part}
use Rattle.irreducible.proofs.residues.squares.Given as goal

abbrev pub invariant-loop-i : goal.invariant-loop-i
invariant-loop-i l = (l.i ≤ l.n) × Part l.m l.r l.r l.i l.i l.b

abbrev pub decreases-loop-i : goal.decreases-loop-i
decreases-loop-i l = l.n - l.i
