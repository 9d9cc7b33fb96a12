-- The loop's invariant: the first x entries of both tables are written. Assumes nothing.
use mathlib.Core.Path.{◌≡◌}
use Prim.Native.Nat.{◌-◌, ◌≤◌, min}
use lib.ListN.{length}
use Rattle.network.specs.Tables.{Tab, at}
use Rattle.control_passes.proofs.double.Given as goal

abbrev pub invariant-loop-x : goal.invariant-loop-x
invariant-loop-x l = (l.x ≤ l.n) × (length l.p2 ≡ length l.initial.p2) × (length l.c2 ≡ length l.initial.c2)
    × Tab l.x l.p2 (λ k. at l.p (at l.p k)) × Tab l.x l.c2 (λ k. min (at l.c k) (at l.c (at l.p k)))

abbrev pub decreases-loop-x : goal.decreases-loop-x
decreases-loop-x l = l.n - l.x
