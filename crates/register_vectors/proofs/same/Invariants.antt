-- `register_vectors::same` is safe and ends: i stays within the coefficients. Assumes nothing.
use Rattle.std.proofs.Common.{◌-◌, ◌≤◌}
use Rattle.register_vectors.proofs.same.Given as goal

abbrev pub invariant-loop-i : goal.invariant-loop-i
invariant-loop-i l = l.i ≤ 257

abbrev pub decreases-loop-i : goal.decreases-loop-i
decreases-loop-i l = 257 - l.i
