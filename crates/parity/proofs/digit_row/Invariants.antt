-- The loop's invariant: the digits from j on are left to write. Assumes nothing.
use mathlib.Core.Path.{◌≡◌}
use Prim.Native.Nat.{◌-◌, ◌≤◌}
use lib.ListN.{take, drop}
use Rattle.bits.specs.Bits.{put_bits}
use Rattle.parity.specs.Rows.{digit_row}
use Rattle.parity.proofs.digit_row.Given as goal

abbrev pub invariant-loop-j : goal.invariant-loop-j
invariant-loop-j l =
    (l.j ≤ l.n) × (put_bits (drop l.j (digit_row (take l.n l.p) l.k)) l.j l.row ≡ put_bits (digit_row (take l.n l.p) l.k) 0 l.initial.row)

abbrev pub decreases-loop-j : goal.decreases-loop-j
decreases-loop-j l = l.n - l.j
