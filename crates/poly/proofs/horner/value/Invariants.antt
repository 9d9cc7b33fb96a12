-- The loop's invariant: r is the value of the coefficients from k on. Assumes nothing.
use mathlib.Core.Path.{◌≡◌}
use Prim.Native.Nat.{◌≤◌}
use lib.ListN.{length, drop}
use Rattle.field.specs.Poly.{value}
use Rattle.poly.proofs.horner.value.Given as goal

abbrev pub invariant-loop-k : goal.invariant-loop-k
invariant-loop-k l = (l.k ≤ length l.p) × (l.r ≡ value l.m (drop l.k l.p) l.a)

abbrev pub decreases-loop-k : goal.decreases-loop-k
decreases-loop-k l = l.k
