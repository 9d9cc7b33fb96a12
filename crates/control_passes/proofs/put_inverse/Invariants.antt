-- The loop's invariant: the first i numbers are inverted. Assumes nothing.
use mathlib.Core.Path.{◌≡◌}
use Prim.Native.Nat.{ℕ, ◌-◌, ◌≤◌, ◌<◌}
use lib.ListN.{length}
use Rattle.network.specs.Tables.{at}
use Rattle.control_passes.proofs.put_inverse.Given as goal

abbrev pub invariant-loop-i : goal.invariant-loop-i
invariant-loop-i l = (l.i ≤ length l.pi) × (length l.inv ≡ length l.initial.inv) × ((k : ℕ) → k < l.i → at l.inv (at l.pi k) ≡ k)

abbrev pub decreases-loop-i : goal.decreases-loop-i
decreases-loop-i l = length l.pi - l.i
