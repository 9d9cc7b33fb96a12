-- `power_sums::merging::gather` meets its contract. Assumes nothing.
use mathlib.Core.Path.{◌≡◌}
use Prim.Native.Nat.{◌-◌, ◌≤◌}
use lib.ListN.{length}
use Rattle.power_sums.proofs.Loops.{collected_to}
use Rattle.power_sums.proofs.merging.gather.Given as goal

abbrev pub invariant-loop-i : goal.invariant-loop-i
invariant-loop-i l = (l.i ≤ length l.initial.c) × (length l.c ≡ length l.initial.c) × (l.c ≡ collected_to l.i l.initial.c)

abbrev pub decreases-loop-i : goal.decreases-loop-i
decreases-loop-i l = length l.initial.c - l.i
