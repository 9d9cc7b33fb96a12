-- The loop's invariant: the values of the polynomial with the coefficients from k on. Assumes nothing.
use mathlib.Core.Path.{◌≡◌}
use Prim.Native.Nat.{◌≤◌}
use lib.ListN.{length}
use Rattle.poly.proofs.AtPoints.{values_from}
use Rattle.poly.proofs.horner.value_block.Given as goal

abbrev pub invariant-loop-k : goal.invariant-loop-k
invariant-loop-k l = (l.k ≤ length l.g) × (length l.r ≡ length l.initial.r) × (l.r ≡ values_from l.m l.g l.initial.r l.a l.k)

abbrev pub decreases-loop-k : goal.decreases-loop-k
decreases-loop-k l = l.k
