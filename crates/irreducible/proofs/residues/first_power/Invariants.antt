-- The loop's invariant: w is x^(2^k). Assumes nothing.
use Prim.Native.Nat.{◌-◌, ◌≤◌}
use Rattle.irreducible.specs.Residues.{FirstPower}
use Rattle.irreducible.proofs.residues.first_power.Given as goal

abbrev pub invariant-loop-k : goal.invariant-loop-k
invariant-loop-k l = (l.k ≤ l.m) × FirstPower l.m l.t l.n l.k l.w

abbrev pub decreases-loop-k : goal.decreases-loop-k
decreases-loop-k l = l.m - l.k
