-- `levels::levels::filled` meets its contract. Assumes nothing.
use mathlib.Core.Path.{◌≡◌}
use Prim.Native.Nat.{◌-◌, ◌≤◌, ◌<◌}
use Rattle.levels.specs.Levels.{basis_of, tops_put, factors_put}
use Rattle.levels.proofs.levels.filled.Given as goal

abbrev pub invariant-loop-j : goal.invariant-loop-j
invariant-loop-j l =
    (l.j ≤ l.k) × (l.k ≤ l.m) × (l.m < 14) × (l.tops ≡ tops_put l.m l.j) × (l.factors ≡ factors_put l.m l.j) × (l.b ≡ basis_of l.m l.j)

abbrev pub decreases-loop-j : goal.decreases-loop-j
decreases-loop-j l = l.k - l.j
