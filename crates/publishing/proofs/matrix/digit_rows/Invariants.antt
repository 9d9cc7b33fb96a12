-- The loop's invariant: the rows of the first k digits are written, and what follows is as it was. Assumes nothing.
use mathlib.Core.Path.{◌≡◌}
use Prim.Native.Nat.{◌-◌, ◌*◌, ◌≤◌}
use lib.ListN.{length, take, drop}
use Rattle.bits.specs.Bits.{bytes_for}
use Rattle.code.specs.Lock.{rows_of}
use Rattle.parity.specs.Rows.{digit_rows}
use Rattle.publishing.proofs.matrix.digit_rows.Given as goal

abbrev pub invariant-loop-k : goal.invariant-loop-k
invariant-loop-k l =
    (l.k ≤ l.m) × (l.at ≡ l.k * bytes_for l.n) × (length l.out ≡ length l.initial.out)
    × (rows_of l.k l.n l.out ≡ digit_rows l.k (take l.n l.p)) × (drop l.at l.out ≡ drop l.at l.initial.out)

abbrev pub decreases-loop-k : goal.decreases-loop-k
decreases-loop-k l = l.m - l.k
