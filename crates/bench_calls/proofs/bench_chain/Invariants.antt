-- The loop's invariant: k products are left, from r on. Assumes nothing.
use mathlib.Core.Path.{◌≡◌}
use Rattle.bench_calls.specs.Chain.{chain}
use Rattle.bench_calls.proofs.bench_chain.Given as goal

abbrev pub invariant-loop-k : goal.invariant-loop-k
invariant-loop-k l = chain l.k l.m l.a l.r ≡ chain l.n l.m l.a l.b

abbrev pub decreases-loop-k : goal.decreases-loop-k
decreases-loop-k l = l.k
