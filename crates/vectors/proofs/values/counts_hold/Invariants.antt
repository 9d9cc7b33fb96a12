-- The invariant: the values from v on decide. Assumes nothing.
use mathlib.Core.Path.{◌≡◌}
use Prim.Native.Nat.{◌-◌, ◌≤◌}
use lib.ListN.{get_or}
use Rattle.vectors.specs.Values.{occurrences_of, counts_hold}
use Rattle.vectors.proofs.Places.{same_from}
use Rattle.vectors.proofs.values.counts_hold.Given as goal

abbrev pub invariant-loop-v : goal.invariant-loop-v
invariant-loop-v l =
    (l.v ≤ 256) × (same_from (λ w. get_or l.counts w 0) (λ w. occurrences_of w l.bytes) 256 l.v ≡ counts_hold l.counts l.bytes)

abbrev pub decreases-loop-v : goal.decreases-loop-v
decreases-loop-v l = 256 - l.v
