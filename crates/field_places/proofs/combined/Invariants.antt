-- The loop's invariant: the sum over the first j digits. Assumes nothing.
use mathlib.Core.Path.{◌≡◌}
use Prim.Native.Nat.{◌+◌, ◌-◌, ◌*◌, ◌≤◌}
use lib.ListN.{get_or}
use Rattle.field.specs.PointTable.{digit_sum}
use Rattle.field_places.proofs.combined.Given as goal

abbrev pub invariant-loop-j : goal.invariant-loop-j
invariant-loop-j l = (l.j ≤ 13) × (l.s ≡ digit_sum l.j (λ j. get_or l.t (64 * j + l.i) 0) l.r)

abbrev pub decreases-loop-j : goal.decreases-loop-j
decreases-loop-j l = 13 - l.j
