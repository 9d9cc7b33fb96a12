-- The loop's invariant: p is the 2^i-th iterate, and c the least of the first 2^i. Assumes nothing.
use mathlib.Core.Path.{◌≡◌}
use Prim.Native.Nat.{◌-◌, ◌^◌, ◌≤◌}
use lib.ListN.{length}
use Rattle.network.specs.Network.{it, low}
use Rattle.network.specs.Tables.{Tab, at}
use Rattle.control_passes.proofs.rounds.Given as goal

abbrev pub invariant-loop-i : goal.invariant-loop-i
invariant-loop-i l = (l.i ≤ l.k) × (length l.p ≡ length l.initial.p) × (length l.c ≡ length l.initial.c) × (length l.p2 ≡ length l.initial.p2) × (length l.c2 ≡ length l.initial.c2)
    × Tab l.n l.p (it (at l.initial.p) (2 ^ l.i)) × Tab l.n l.c (low (at l.initial.p) (2 ^ l.i))

abbrev pub decreases-loop-i : goal.decreases-loop-i
decreases-loop-i l = l.k - l.i
