-- `key_vectors::unhex` is safe and ends: i stays below n. Assumes nothing.
use Rattle.std.proofs.Common.{length, ◌+◌, ◌-◌, ◌*◌, ◌≤◌, ◌<◌}
use Rattle.key_vectors.proofs.unhex.Given as goal

abbrev pub invariant-loop-i : goal.invariant-loop-i
invariant-loop-i l = (l.i ≤ l.n) × (l.n ≤ length l.out) × (2 * l.n + 2 ≤ length l.line) × (l.n < 100000)

abbrev pub decreases-loop-i : goal.decreases-loop-i
decreases-loop-i l = l.n - l.i
