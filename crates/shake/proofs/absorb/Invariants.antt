-- The loop's invariant: the blocks from byte `at` on, absorbed into a, give what all give. Assumes nothing.
use mathlib.Core.Path.{◌≡◌}
use Prim.Native.Nat.{◌-◌, ◌≤◌}
use lib.ListN.{length}
use Rattle.keccak.specs.Lanes.{absorbed_all}
use Rattle.shake.proofs.Loops.{absorbed_from}
use Rattle.shake.proofs.absorb.Given as goal

abbrev pub invariant-loop-at : goal.invariant-loop-at
invariant-loop-at l = (l.at ≤ length l.input) × (absorbed_from l.at l.input l.a ≡ absorbed_all l.input)

abbrev pub decreases-loop-at : goal.decreases-loop-at
decreases-loop-at l = length l.input - l.at
