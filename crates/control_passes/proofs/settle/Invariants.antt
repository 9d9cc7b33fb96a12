-- The loop's invariant: the first x numbers are settled, the others as they were. Assumes nothing.
use mathlib.Core.Path.{◌≡◌}
use Prim.Native.Nat.{ℕ, ◌-◌, ◌*◌, ◌%◌, ◌≤◌}
use lib.ListN.{length}
use Rattle.network.specs.Network.{pairs}
use Rattle.network.specs.Tables.{Tab, at}
use Rattle.control_passes.proofs.settle.Given as goal

abbrev pub invariant-loop-x : goal.invariant-loop-x
invariant-loop-x l = (l.x ≤ length l.initial.pi) × (length l.pi ≡ length l.initial.pi) × Tab l.x l.pi (λ x. pairs (λ j. at l.c (2 * j) % 2) (at l.initial.pi x))
    × ((k : ℕ) → l.x ≤ k → at l.pi k ≡ at l.initial.pi k)

abbrev pub decreases-loop-x : goal.decreases-loop-x
decreases-loop-x l = length l.initial.pi - l.x
