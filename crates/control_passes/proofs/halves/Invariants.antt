-- The loop's invariant: the first j entries of both halves are written. Assumes nothing.
use mathlib.Core.Path.{◌≡◌}
use Prim.Native.Nat.{ℕ, ◌+◌, ◌-◌, ◌*◌, ◌/◌, ◌%◌, ◌≤◌, ◌<◌}
use lib.ListN.{length}
use Rattle.network.specs.Network.{turn}
use Rattle.network.specs.Tables.{Tab, at}
use Rattle.control_passes.proofs.halves.Given as goal

abbrev pub invariant-loop-j : goal.invariant-loop-j
invariant-loop-j l = (l.j ≤ l.h) × (length l.out ≡ length l.initial.out) × Tab l.j l.out (λ j. at l.pi (turn (at l.pi (2 * j) % 2) (2 * j)) / 2)
    × ((i : ℕ) → i < l.j → at l.out (l.h + i) ≡ at l.pi (turn (at l.pi (2 * i) % 2) (2 * i + 1)) / 2)

abbrev pub decreases-loop-j : goal.decreases-loop-j
decreases-loop-j l = l.h - l.j
