-- Assumes nothing.
use mathlib.Core.Path.{◌≡◌}
use mathlib.Core.List.{◌++◌}
use Prim.Native.Nat.{◌+◌, ◌-◌, ◌^◌, ◌≤◌}
use lib.ListN.{length, take}
use Rattle.network.specs.Network.{unused}
use Rattle.completion.proofs.complete.Given as goal

abbrev pub invariant-loop-at : goal.invariant-loop-at
invariant-loop-at l =
    (l.v ≤ 2 ^ l.m) × (length l.values ≡ 8192) × (l.at ≡ l.n + length (unused (take l.n l.initial.values) l.v)) × (take l.at l.values ≡ take l.n l.initial.values ++ unused (take l.n l.initial.values) l.v)

abbrev pub decreases-loop-at : goal.decreases-loop-at
decreases-loop-at l = 2 ^ l.m - l.v
