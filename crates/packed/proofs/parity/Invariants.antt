-- The loop's invariant: s, with the bits of d from k on, is the whole sum. Assumes nothing.
use mathlib.Core.Path.{◌≡◌}
use Prim.Native.Nat.{◌/◌, ◌%◌, ◌^◌, ◌-◌, ◌≤◌}
use lib.Count.{ones}
use Rattle.bits.specs.Xor.{◌⊕◌}
use Rattle.packed.proofs.parity.Given as goal

abbrev pub invariant-loop-k : goal.invariant-loop-k
invariant-loop-k l = (l.k ≤ 8) × (l.s ⊕ ones (l.d / 2 ^ l.k) % 2 ≡ ones l.d % 2)

abbrev pub decreases-loop-k : goal.decreases-loop-k
decreases-loop-k l = 8 - l.k
