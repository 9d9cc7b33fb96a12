-- The loop's invariant: r is a^(2^k - 2). Assumes nothing.
use mathlib.Core.Path.{◌≡◌}
use Prim.Native.Nat.{◌-◌, ◌≤◌, ◌<◌}
use Rattle.field.proofs.Reciprocals.{even_power}
use Rattle.field.proofs.inverse_power.Given as goal

abbrev pub invariant-loop-k : goal.invariant-loop-k
invariant-loop-k l = (0 < l.k) × (l.k ≤ l.m) × (l.r ≡ even_power l.m l.k l.a)

abbrev pub decreases-loop-k : goal.decreases-loop-k
decreases-loop-k l = l.m - l.k
