-- The loop's invariant: the rows from r on decide. Assumes nothing.
use mathlib.Core.Path.{◌≡◌}
use Prim.Native.Nat.{◌-◌, ◌*◌, ◌≤◌}
use lib.ListN.{length, drop}
use Rattle.bits.specs.Bits.{from, every, bytes_for, filler_clear}
use Rattle.code.specs.Lock.{row_of}
use Rattle.locking.proofs.fillers_clear.Given as goal

abbrev pub invariant-loop-r : goal.invariant-loop-r
invariant-loop-r l =
    (l.r ≤ l.rows) × (l.at ≡ l.r * bytes_for l.w)
    × (l.at ≤ length l.public) × (every (λ i. filler_clear l.w (row_of l.w l.public i)) (drop l.r (from 0 l.rows)) ≡ every (λ i. filler_clear l.w (row_of l.w l.public i)) (from 0 l.rows))

abbrev pub decreases-loop-r : goal.decreases-loop-r
decreases-loop-r l = l.rows - l.r
