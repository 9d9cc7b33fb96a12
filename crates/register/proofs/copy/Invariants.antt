-- The loop's invariant: the first i coefficients are copied. Assumes nothing.
use mathlib.Core.Path.{◌≡◌}
use Prim.Native.Nat.{◌-◌, ◌≤◌}
use lib.ListN.{length}
use Rattle.register.proofs.Loops.{copied_to}
use Rattle.register.proofs.copy.Given as goal

abbrev pub invariant-loop-i : goal.invariant-loop-i
invariant-loop-i l = (l.i ≤ 257) × (length l.b ≡ length l.initial.b) × (l.b ≡ copied_to l.initial.b l.c l.i)

abbrev pub decreases-loop-i : goal.decreases-loop-i
decreases-loop-i l = 257 - l.i
