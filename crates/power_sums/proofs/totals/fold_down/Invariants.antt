-- `power_sums::totals::fold_down` meets its contract. Assumes nothing.
use mathlib.Core.Path.{◌≡◌}
use Prim.Native.Nat.{◌-◌, ◌≤◌}
use lib.ListN.{length}
use Rattle.power_sums.specs.Sums.{weights_of}
use Rattle.power_sums.proofs.totals.fold_down.Given as goal

abbrev pub invariant-loop-j : goal.invariant-loop-j
invariant-loop-j l = (l.j ≤ l.k) × (length l.d ≡ length l.initial.d) × (l.d ≡ weights_of l.m l.j l.initial.d)

abbrev pub decreases-loop-j : goal.decreases-loop-j
decreases-loop-j l = l.k - l.j
