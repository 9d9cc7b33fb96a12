-- The loop's invariant: the first i words are added. Assumes nothing.
use mathlib.Core.Path.{◌≡◌}
use Prim.Native.Nat.{◌-◌, ◌≤◌}
use lib.ListN.{take}
use Rattle.bits.specs.Bits.{xor_row}
use Rattle.keccak.specs.Lanes.{words}
use Rattle.shake.proofs.absorb_block.Given as goal

abbrev pub invariant-loop-i : goal.invariant-loop-i
invariant-loop-i l = (l.i ≤ 17) × (l.b ≡ xor_row l.initial.b (take l.i (words l.block)))

abbrev pub decreases-loop-i : goal.decreases-loop-i
decreases-loop-i l = 17 - l.i
