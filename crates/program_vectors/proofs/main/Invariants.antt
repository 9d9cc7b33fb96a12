-- `program_vectors::main` is safe and ends: the cases go up by two. Assumes nothing.
use Rattle.std.proofs.Common.{◌-◌, ◌≤◌}
use Rattle.program_vectors.proofs.main.Given as goal

abbrev pub invariant-loop-case : goal.invariant-loop-case
invariant-loop-case l = (l.differences ≤ l.case) × (l.case ≤ 32)

abbrev pub decreases-loop-case : goal.decreases-loop-case
decreases-loop-case l = 32 - l.case
