-- The loop's invariant: the first r rows are written, at the places where the next one follows. Assumes nothing.
use mathlib.Core.Path.{◌≡◌}
use Prim.Native.Nat.{◌+◌, ◌-◌, ◌*◌, ◌≤◌}
use lib.ListN.{length}
use Rattle.bits.specs.Bits.{bytes_for, over}
use Rattle.publishing.proofs.WrittenRows.{tails}
use Rattle.publishing.proofs.rows.write_rows.Given as goal

abbrev pub invariant-loop-r : goal.invariant-loop-r
invariant-loop-r l =
    (l.r ≤ l.rows) × (l.at ≡ l.r * bytes_for (l.n - l.rows)) × (l.base ≡ l.rows + l.r * (8 * bytes_for l.n))
    × (length l.out ≡ length l.initial.out) × (l.out ≡ over (tails l.rows l.n l.work l.r) l.initial.out)

abbrev pub decreases-loop-r : goal.decreases-loop-r
decreases-loop-r l = l.rows - l.r
