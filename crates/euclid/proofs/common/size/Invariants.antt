-- The loop's invariant: the first n coefficients decide. Assumes nothing.
use mathlib.Core.Path.{◌≡◌}
use Prim.Native.Nat.{◌≤◌}
use lib.ListN.{length, take}
use Rattle.euclid.specs.Euclid.{size}
use Rattle.euclid.proofs.common.size.Given as goal

abbrev pub invariant-loop-n : goal.invariant-loop-n
invariant-loop-n l = (l.n ≤ length l.p) × (size (take l.n l.p) ≡ size l.p)

abbrev pub decreases-loop-n : goal.decreases-loop-n
decreases-loop-n l = l.n
