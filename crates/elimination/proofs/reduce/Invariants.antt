-- The loop's invariant: from column i on, the workspace's rows have the echelon form of all. Assumes nothing.
use mathlib.Core.Path.{◌≡◌}
use Prim.Native.Nat.{◌-◌, ◌*◌, ◌≤◌}
use lib.ListN.{length, drop}
use Rattle.bits.specs.Bits.{bytes_for}
use Rattle.code.specs.PublicKey.{columns, echelon}
use Rattle.code.specs.Lock.{rows_of}
use Rattle.elimination.specs.Elimination.{stage}
use Rattle.elimination.proofs.reduce.Given as goal

abbrev pub invariant-loop-i : goal.invariant-loop-i
invariant-loop-i l =
    (l.i ≤ l.rows) × (length l.w ≡ length l.initial.w) × (columns (l.n - l.i) l.i (stage l.i l.rows l.n l.w) ≡ echelon l.n (rows_of l.rows l.n l.initial.w))
    × (drop (l.rows * bytes_for l.n) l.w ≡ drop (l.rows * bytes_for l.n) l.initial.w)

abbrev pub decreases-loop-i : goal.decreases-loop-i
decreases-loop-i l = l.rows - l.i
