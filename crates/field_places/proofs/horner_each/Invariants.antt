-- The loop's invariant: the first i places are done. Assumes nothing.
use mathlib.Core.Path.{◌≡◌}
use Prim.Native.Nat.{◌-◌, ◌≤◌}
use lib.ListN.{length, take}
use Rattle.bits.specs.Xor.{◌⊕◌}
use Rattle.bits.specs.Bits.{each_with}
use Rattle.field.specs.Field.{mul}
use Rattle.field_places.proofs.horner_each.Given as goal

abbrev pub invariant-loop-i : goal.invariant-loop-i
invariant-loop-i l = (l.i ≤ l.n) × (length l.r ≡ length l.initial.r) × (l.r ≡ each_with (λ x y. mul l.m x y ⊕ l.c) l.initial.r (take l.i l.a))

abbrev pub decreases-loop-i : goal.decreases-loop-i
decreases-loop-i l = l.n - l.i
