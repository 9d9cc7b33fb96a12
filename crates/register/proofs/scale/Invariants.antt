-- The loop's invariant: the first i places are done. Assumes nothing.
use mathlib.Core.Path.{◌≡◌}
use Prim.Native.Nat.{◌-◌, ◌≤◌}
use lib.ListN.{length}
use Rattle.register.proofs.Loops.{scaled_to}
use Rattle.register.proofs.scale.Given as goal

abbrev pub invariant-loop-i : goal.invariant-loop-i
invariant-loop-i l = (l.i ≤ l.e) × (length l.c ≡ length l.initial.c) × (l.c ≡ scaled_to l.m l.a l.initial.c l.i)

abbrev pub decreases-loop-i : goal.decreases-loop-i
decreases-loop-i l = l.e - l.i
