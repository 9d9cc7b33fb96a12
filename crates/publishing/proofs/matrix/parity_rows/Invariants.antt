-- The loop's invariant: the rows of the powers below s are written, what follows is as it was, and p has α^s / g(α) at
-- the support's places. Assumes nothing.
use mathlib.Core.Path.{◌≡◌}
use mathlib.Core.List.{map}
use Prim.Native.Nat.{◌-◌, ◌*◌, ◌≤◌}
use lib.ListN.{length, take, drop}
use Rattle.bits.specs.Bits.{from, bytes_for}
use Rattle.key.specs.Keys.{key_of}
use Rattle.code.specs.Code.{entry, parity_row}
use Rattle.code.specs.Lock.{rows_of}
use Rattle.publishing.proofs.matrix.parity_rows.Given as goal

abbrev pub invariant-loop-s : goal.invariant-loop-s
invariant-loop-s l =
    (l.s ≤ length l.g) × (l.at ≡ l.s * l.m * bytes_for (length l.support)) × (length l.work ≡ length l.initial.work) × (length l.p ≡ 8192)
    × (take (length l.support) l.p ≡ map (entry (key_of l.m l.support l.g) l.s) l.support)
    × (rows_of (l.s * l.m) (length l.support) l.work ≡ map (parity_row (key_of l.m l.support l.g)) (from 0 (l.s * l.m)))
    × (drop l.at l.work ≡ drop l.at l.initial.work)

abbrev pub decreases-loop-s : goal.decreases-loop-s
decreases-loop-s l = length l.g - l.s
