-- The index stays at most n, and the output keeps its length. Assumes nothing.
use Rattle.std.proofs.Common.{◌≡◌, length, ◌-◌, ◌*◌, ◌≤◌}
use Rattle.shake_vectors.proofs.unhex.Given as goal

abbrev pub invariant-loop-i : goal.invariant-loop-i
invariant-loop-i l = (l.i ≤ l.n) × (l.n ≤ length l.out) × (2 * l.n ≤ length l.text)

abbrev pub decreases-loop-i : goal.decreases-loop-i
decreases-loop-i l = l.n - l.i
