-- The loop's invariant: the first i positions are done. Assumes nothing.
use mathlib.Core.Path.{◌≡◌}
use mathlib.Core.List.{List}
use Prim.Native.Nat.{ℕ, ◌+◌, ◌-◌, ◌^◌, ◌≤◌}
use lib.ListN.{length}
use Rattle.bits.specs.Bits.{bit_at}
use Rattle.network.specs.Network.{exchange}
use Rattle.switching.proofs.Places.{mapped_to}
use Rattle.switching.proofs.layer.Given as goal

-- a position's source
abbrev pub from_here : ℕ → List ℕ → ℕ → ℕ → ℕ
from_here k row base = exchange (2 ^ k) (λ j. bit_at row (base + j))

abbrev pub invariant-loop-i : goal.invariant-loop-i
invariant-loop-i l =
    (l.i ≤ length l.initial.places) × (length l.places ≡ length l.initial.places) × (l.places ≡ mapped_to (from_here l.k l.row l.base) l.initial.places l.i)

abbrev pub decreases-loop-i : goal.decreases-loop-i
decreases-loop-i l = length l.initial.places - l.i
