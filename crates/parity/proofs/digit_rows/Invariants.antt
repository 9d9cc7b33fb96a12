-- The loop's invariant: the rows of the first k digits are written over what was there, and what follows is as it was. Assumes nothing.
use mathlib.Core.Path.{◌≡◌}
use Prim.Native.Nat.{◌-◌, ◌*◌, ◌≤◌}
use lib.ListN.{length, take, drop}
use Rattle.code.specs.Lock.{rows_of}
use Rattle.parity.specs.Rows.{digit_rows, over_rows}
use Rattle.parity.proofs.digit_rows.Given as goal

abbrev pub invariant-loop-k : goal.invariant-loop-k
invariant-loop-k l =
    (l.k ≤ l.m) × (l.at ≡ l.k * l.step) × (length l.out ≡ length l.initial.out)
    × (rows_of l.k (8 * l.step) l.out ≡ over_rows (digit_rows l.k (take l.n l.p)) (rows_of l.k (8 * l.step) l.initial.out))
    × (drop l.at l.out ≡ drop l.at l.initial.out)

abbrev pub decreases-loop-k : goal.decreases-loop-k
decreases-loop-k l = l.m - l.k
