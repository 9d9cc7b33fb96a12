-- `transform::everywhere::descend` meets its contract. Assumes nothing.
use mathlib.Core.Path.{◌≡◌}
use Prim.Native.Nat.{◌-◌, ◌≤◌}
use lib.ListN.{length}
use Rattle.transform.specs.Values.{parts_of}
use Rattle.transform.proofs.everywhere.descend.Given as goal

abbrev pub invariant-loop-j : goal.invariant-loop-j
invariant-loop-j l = (l.j ≤ l.k) × (length l.c ≡ length l.initial.c) × (l.c ≡ parts_of l.m l.k l.j l.initial.c)

abbrev pub decreases-loop-j : goal.decreases-loop-j
decreases-loop-j l = l.k - l.j
