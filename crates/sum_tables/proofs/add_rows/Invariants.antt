-- The loop's invariant: the first r rows are cleared, and what follows is as it was. Assumes nothing.
use mathlib.Core.Path.{◌≡◌}
use mathlib.Core.List.{map}
use Prim.Native.Nat.{◌-◌, ◌*◌, ◌≤◌}
use lib.ListN.{length, drop}
use Rattle.bits.specs.Bits.{bytes_for, unpack}
use Rattle.code.specs.Lock.{rows_of}
use Rattle.sum_tables.specs.Apart.{plus}
use Rattle.sum_tables.proofs.add_rows.Given as goal

abbrev pub invariant-loop-r : goal.invariant-loop-r
invariant-loop-r l =
    (l.r ≤ l.rows) × (l.at ≡ l.r * bytes_for l.n) × (l.at ≤ length l.w) × (length l.w ≡ length l.initial.w)
    × (rows_of l.r l.n l.w ≡ map (plus (unpack l.n l.p)) (rows_of l.r l.n l.initial.w)) × (drop l.at l.w ≡ drop l.at l.initial.w)

abbrev pub decreases-loop-r : goal.decreases-loop-r
decreases-loop-r l = l.rows - l.r
