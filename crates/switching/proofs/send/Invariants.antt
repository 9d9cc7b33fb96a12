-- The loop's invariant: l layers are left. Assumes nothing.
use mathlib.Core.Path.{◌≡◌}
use mathlib.Core.List.{List, map}
use Prim.Native.Nat.{ℕ, ◌+◌, ◌*◌, ◌^◌, ◌≤◌}
use lib.ListN.{length}
use Rattle.bits.specs.Bits.{bit_at}
use Rattle.network.specs.Network.{sent, network}
use Rattle.switching.proofs.send.Given as goal

-- the settings
abbrev pub settings : ℕ → List ℕ → ℕ → ℕ → ℕ
settings m row l j = bit_at row (l * 2 ^ m + j)

abbrev pub invariant-loop-l : goal.invariant-loop-l
invariant-loop-l l =
    (l.l ≤ 2 * l.m + 1) × (length l.places ≡ length l.initial.places)
    × (map (sent l.m (settings l.m l.row) l.l) l.places ≡ map (network l.m (settings l.m l.row)) l.initial.places)

abbrev pub decreases-loop-l : goal.decreases-loop-l
decreases-loop-l l = l.l
