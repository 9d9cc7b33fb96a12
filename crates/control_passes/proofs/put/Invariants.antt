-- The loop's invariant: the first j bits of the layer are set, and no others. Assumes nothing.
use mathlib.Core.Path.{◌≡◌}
use Prim.Native.Nat.{ℕ, ◌-◌, ◌*◌, ◌%◌, ◌≤◌, ◌<◌}
use lib.ListN.{length}
use mathlib.Core.Logic.{◌≢◌}
use Rattle.bits.specs.Bits.{Bytes, bit_at}
use Rattle.network.specs.Tables.{at}
use Rattle.control_passes.specs.Passes.{spot}
use Rattle.control_passes.proofs.put.Given as goal

abbrev pub invariant-loop-j : goal.invariant-loop-j
invariant-loop-j l = (l.j ≤ l.h) × (length l.b ≡ length l.initial.b)
    × ((i : ℕ) → i < l.j → bit_at l.b (spot l.off l.step l.h l.l i) ≡ at l.s (2 * i) % 2)
    × ((k : ℕ) → ((i : ℕ) → i < l.h → k ≢ spot l.off l.step l.h l.l i) → bit_at l.b k ≡ bit_at l.initial.b k) × Bytes l.b

abbrev pub decreases-loop-j : goal.decreases-loop-j
decreases-loop-j l = l.h - l.j
