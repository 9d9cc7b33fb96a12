-- The loop's invariant: the places from i on decide. Assumes nothing.
use mathlib.Core.Path.{◌≡◌}
use mathlib.Core.Bool.{not}
use Prim.Native.Nat.{◌-◌}
use lib.Dec.{eqb}
use lib.ListN.{length, drop}
use Rattle.bits.specs.Bits.{every}
use Rattle.key.proofs.checks.no_zero.Given as goal

abbrev pub invariant-loop-i : goal.invariant-loop-i
invariant-loop-i l = every (λ x. not (eqb x 0)) (drop l.i l.s) ≡ every (λ x. not (eqb x 0)) l.s

abbrev pub decreases-loop-i : goal.decreases-loop-i
decreases-loop-i l = length l.s - l.i
