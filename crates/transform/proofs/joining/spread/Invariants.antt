-- `transform::joining::spread` meets its contract. Assumes nothing.
use mathlib.Core.Path.{◌≡◌}
use Prim.Native.Nat.{◌-◌, ◌*◌, ◌≤◌}
use lib.ListN.{length}
use Rattle.transform.proofs.Loops.{spread_to}
use Rattle.transform.proofs.joining.spread.Given as goal

abbrev pub invariant-loop-k : goal.invariant-loop-k
invariant-loop-k l = (l.k ≤ length l.c) × (l.at ≡ l.k * l.r) × (length l.d ≡ length l.initial.d) × (l.d ≡ spread_to l.r l.c l.initial.d l.k)

abbrev pub decreases-loop-k : goal.decreases-loop-k
decreases-loop-k l = length l.c - l.k
