-- The loop's invariant: the bytes before `at` are those of k lanes. Assumes nothing.
use mathlib.Core.Path.{◌≡◌}
use Prim.Native.Nat.{◌-◌, ◌*◌, ◌≤◌}
use lib.ListN.{length, take}
use Rattle.keccak.specs.Lanes.{state_bytes}
use Rattle.shake.proofs.write_bytes.Given as goal

abbrev pub invariant-loop-out : goal.invariant-loop-out
invariant-loop-out l = (l.at ≤ length l.initial.out) × (l.at ≡ 8 * l.k) × (length l.out ≡ length l.initial.out) × (take l.at l.out ≡ state_bytes (8 * l.k) l.a)

abbrev pub decreases-loop-out : goal.decreases-loop-out
decreases-loop-out l = length l.initial.out - l.at
