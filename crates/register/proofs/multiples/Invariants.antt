-- The loop's invariant: the first j multiples are made. Assumes nothing.
use Prim.Native.Nat.{◌-◌, ◌≤◌}
use Rattle.register.proofs.Loops.{Made}
use Rattle.register.proofs.multiples.Given as goal

abbrev pub invariant-loop-j : goal.invariant-loop-j
invariant-loop-j l = (1 ≤ l.j) × (l.j ≤ l.n) × Made l.m l.a l.j l.t

abbrev pub decreases-loop-j : goal.decreases-loop-j
decreases-loop-j l = l.n - l.j
