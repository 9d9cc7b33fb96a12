-- The loop's invariant: the rounds from i on give what all give. Assumes nothing.
use mathlib.Core.Path.{◌≡◌}
use Prim.Native.Nat.{◌-◌, ◌≤◌}
use Rattle.keccak.specs.Lanes.{rounds_lanes}
use Rattle.permutation.proofs.permute.Given as goal

abbrev pub invariant-loop-i : goal.invariant-loop-i
invariant-loop-i l = (l.i ≤ 24) × (rounds_lanes l.i (24 - l.i) l.b ≡ rounds_lanes 0 24 l.initial.b)

abbrev pub decreases-loop-i : goal.decreases-loop-i
decreases-loop-i l = 24 - l.i
