-- The loop's invariant: the places from i on decide, with the numbers before them seen. Assumes nothing.
use mathlib.Core.Path.{◌≡◌}
use Prim.Native.Nat.{◌-◌}
use lib.ListN.{length, drop}
use Rattle.key.specs.Parts.{distinct_below}
use Rattle.key.proofs.Seen.{fresh}
use Rattle.key.proofs.checks.distinct.Given as goal

abbrev pub invariant-loop-i : goal.invariant-loop-i
invariant-loop-i l = (length l.seen ≡ 1024) × (fresh l.seen (drop l.i l.s) ≡ distinct_below 8192 l.s)

abbrev pub decreases-loop-i : goal.decreases-loop-i
decreases-loop-i l = length l.s - l.i
