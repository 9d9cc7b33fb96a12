-- The loop's invariant: d, with the numbers from i on, is the whole sum. Assumes nothing.
use mathlib.Core.Path.{◌≡◌}
use Prim.Native.Nat.{◌-◌, ◌≤◌}
use lib.ListN.{length}
use Rattle.poly.specs.Polynomials.{sum}
use Rattle.point_sums.proofs.Blocks.{rest}
use Rattle.point_sums.proofs.points.total.Given as goal

abbrev pub invariant-loop-i : goal.invariant-loop-i
invariant-loop-i l = (l.i ≤ length l.p) × (rest l.p l.d l.i ≡ sum l.p)

abbrev pub decreases-loop-i : goal.decreases-loop-i
decreases-loop-i l = length l.p - l.i
