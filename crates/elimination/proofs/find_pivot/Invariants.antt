-- The loop's invariant: r rows are passed, and the pivot's number among the others is to be added. Assumes nothing.
use mathlib.Core.Path.{◌≡◌}
use Prim.Native.Nat.{◌+◌, ◌-◌, ◌*◌, ◌≤◌}
use lib.ListN.{length, drop}
use Rattle.bits.specs.Bits.{bytes_for}
use Rattle.code.specs.Lock.{rows_of}
use Rattle.elimination.specs.Elimination.{pivot_row}
use Rattle.elimination.proofs.find_pivot.Given as goal

abbrev pub invariant-loop-r : goal.invariant-loop-r
invariant-loop-r l =
    (l.r ≤ l.rows) × (l.at ≡ l.r * bytes_for l.n) × (l.at ≤ length l.w)
    × (l.r + pivot_row l.j (rows_of (l.rows - l.r) l.n (drop l.at l.w)) ≡ pivot_row l.j (rows_of l.rows l.n l.w))

abbrev pub decreases-loop-r : goal.decreases-loop-r
decreases-loop-r l = l.rows - l.r
