-- The loop's invariant: the places below i are done. Assumes nothing.
use mathlib.Core.Path.{◌≡◌}
use mathlib.Core.List.{map}
use Prim.Native.Nat.{◌-◌, ◌≤◌}
use lib.ListN.{length}
use Rattle.field.specs.Field.{mul}
use Rattle.poly.proofs.Steps.{partly}
use Rattle.register.proofs.add_multiple.Given as goal

abbrev pub invariant-loop-i : goal.invariant-loop-i
invariant-loop-i l = (l.y ≤ l.i) × (l.i ≤ l.e) × (length l.c ≡ length l.initial.c) × (l.c ≡ partly l.initial.c (map (mul l.m l.a) l.b) l.y l.i)

abbrev pub decreases-loop-i : goal.decreases-loop-i
decreases-loop-i l = l.e - l.i
