-- `power_sums::totals::merge_up` meets its contract. Assumes nothing.
use mathlib.Core.Path.{◌≡◌}
use Prim.Native.Nat.{◌≤◌}
use lib.ListN.{length}
use Rattle.power_sums.specs.Sums.{merges_of}
use Rattle.power_sums.proofs.totals.merge_up.Given as goal

abbrev pub invariant-loop-j : goal.invariant-loop-j
invariant-loop-j l = (l.j ≤ l.k) × (length l.c ≡ length l.initial.c) × (merges_of l.m l.k l.j l.c ≡ merges_of l.m l.k l.k l.initial.c)

abbrev pub decreases-loop-j : goal.decreases-loop-j
decreases-loop-j l = l.j
