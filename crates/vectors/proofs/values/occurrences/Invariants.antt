-- The invariant: those that were met and those from i on are all. Assumes nothing.
use mathlib.Core.Path.{◌≡◌}
use Prim.Native.Nat.{◌+◌, ◌-◌, ◌≤◌}
use lib.ListN.{length, drop}
use Rattle.vectors.specs.Values.{occurrences_of}
use Rattle.vectors.proofs.values.occurrences.Given as goal

abbrev pub invariant-loop-i : goal.invariant-loop-i
invariant-loop-i l =
    (l.i ≤ length l.bytes) × (l.k ≤ l.i) × (l.k + occurrences_of l.value (drop l.i l.bytes) ≡ occurrences_of l.value l.bytes)

abbrev pub decreases-loop-i : goal.decreases-loop-i
decreases-loop-i l = length l.bytes - l.i
