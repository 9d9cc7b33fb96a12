-- `network_vectors::tally_of` is safe and ends: i passes the next newline each time. Assumes nothing.
use Rattle.std.proofs.Common.{length, ◌+◌, ◌-◌, ◌≤◌}
use Rattle.network_vectors.proofs.tally_of.Given as goal

abbrev pub invariant-loop-i : goal.invariant-loop-i
invariant-loop-i l = l.i ≤ length l.text + 1

abbrev pub decreases-loop-i : goal.decreases-loop-i
decreases-loop-i l = length l.text + 1 - l.i
