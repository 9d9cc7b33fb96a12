-- The loop's invariant: the first x entries of both tables are written. Assumes nothing.
use mathlib.Core.Path.{◌≡◌}
use Prim.Native.Nat.{◌-◌, ◌≤◌}
use lib.ListN.{length}
use Rattle.network.specs.Network.{turn}
use Rattle.network.specs.Tables.{Tab, at}
use Rattle.control_passes.proofs.begin.Given as goal

abbrev pub invariant-loop-x : goal.invariant-loop-x
invariant-loop-x l = (l.x ≤ length l.pi) × (length l.p ≡ length l.initial.p) × (length l.c ≡ length l.initial.c)
    × Tab l.x l.p (λ x. at l.pi (turn 1 (at l.inv (turn 1 x)))) × Tab l.x l.c (λ x. x)

abbrev pub decreases-loop-x : goal.decreases-loop-x
decreases-loop-x l = length l.pi - l.x
