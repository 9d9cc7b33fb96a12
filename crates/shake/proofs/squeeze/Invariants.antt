-- The loop's invariant: the bytes before `at`, and what a still gives, are the whole output. Assumes nothing.
use mathlib.Core.Path.{◌≡◌}
use Prim.Native.Nat.{◌-◌, ◌≤◌}
use mathlib.Core.List.{◌++◌}
use lib.ListN.{length, take}
use Rattle.keccak.specs.Lanes.{squeezed}
use Rattle.shake.proofs.squeeze.Given as goal

abbrev pub invariant-loop-out : goal.invariant-loop-out
invariant-loop-out l = (l.at ≤ length l.initial.out) × (length l.out ≡ length l.initial.out) × (take l.at l.out ++ squeezed (length l.out - l.at) l.a ≡ squeezed (length l.initial.out) l.initial.a)

abbrev pub decreases-loop-out : goal.decreases-loop-out
decreases-loop-out l = length l.initial.out - l.at
