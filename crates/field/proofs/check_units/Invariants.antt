-- The loop's invariant: the places from i on decide. Assumes nothing.
use mathlib.Core.Path.{◌≡◌}
use Prim.Native.Nat.{◌-◌}
use lib.ListN.{length, drop}
use Rattle.bits.specs.Bits.{every}
use Rattle.field.specs.Answers.{is_unit}
use Rattle.field.proofs.check_units.Given as goal

abbrev pub invariant-loop-i : goal.invariant-loop-i
invariant-loop-i l = every (is_unit l.m) (drop l.i l.s) ≡ every (is_unit l.m) l.s

abbrev pub decreases-loop-i : goal.decreases-loop-i
decreases-loop-i l = length l.s - l.i
