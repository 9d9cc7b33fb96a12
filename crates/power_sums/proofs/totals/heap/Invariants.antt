-- `power_sums::totals::heap` meets its contract. Assumes nothing.
use mathlib.Core.Path.{◌≡◌}
use Prim.Native.Nat.{◌-◌, ◌*◌, ◌≤◌}
use lib.ListN.{length, take}
use Rattle.power_sums.specs.Sums.{heaped}
use Rattle.bits.specs.Bits.{over}
use Rattle.power_sums.proofs.totals.heap.Given as goal

abbrev pub invariant-loop-k : goal.invariant-loop-k
invariant-loop-k l = (l.k ≤ length l.initial.c) × (l.at ≡ l.k * l.r) × (length l.c ≡ length l.initial.c) × (l.c ≡ over (take l.k (heaped l.m l.r (length l.initial.c) l.d)) l.initial.c)

abbrev pub decreases-loop-k : goal.decreases-loop-k
decreases-loop-k l = length l.initial.c - l.k
