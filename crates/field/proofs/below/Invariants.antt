-- `field::below` meets its contract. The loop's invariant: the places from i on decide. Assumes nothing.
use mathlib.Core.Path.{◌≡◌}
use Prim.Native.Nat.{◌-◌}
use lib.Dec.{ltb}
use lib.ListN.{length, drop}
use Rattle.bits.specs.Bits.{every}
use Rattle.field.proofs.below.Given as goal

abbrev pub invariant-loop-i : goal.invariant-loop-i
invariant-loop-i l = every (λ x. ltb x l.top) (drop l.i l.s) ≡ every (λ x. ltb x l.top) l.s

abbrev pub decreases-loop-i : goal.decreases-loop-i
decreases-loop-i l = length l.s - l.i
