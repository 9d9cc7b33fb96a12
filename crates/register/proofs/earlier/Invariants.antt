-- The loop's invariant: the places from 1 to i - 1 are done. Assumes nothing.
use mathlib.Core.Path.{◌≡◌}
use Prim.Native.Nat.{◌+◌, ◌-◌, ◌≤◌}
use lib.ListN.{length}
use Rattle.poly.specs.Parts.{Earlier}
use Rattle.register.proofs.earlier.Given as goal

abbrev pub invariant-loop-i : goal.invariant-loop-i
invariant-loop-i l = (l.i ≤ l.l + 1) × (length l.w ≡ 257) × Earlier l.s l.n l.i l.w

abbrev pub decreases-loop-i : goal.decreases-loop-i
decreases-loop-i l = l.l + 1 - l.i
