-- The loop's invariant: the filler bits from j on decide. Assumes nothing.
use mathlib.Core.Path.{◌≡◌}
use Prim.Native.Nat.{◌-◌, ◌≤◌}
use lib.Dec.{eqb}
use lib.ListN.{drop}
use Rattle.bits.specs.Bits.{from, every, bit_at, filler_clear}
use Rattle.bits.proofs.filler_clear.Given as goal

abbrev pub invariant-loop-j : goal.invariant-loop-j
invariant-loop-j l = (l.j ≤ l.filler) × (every (λ i. eqb (bit_at l.s i) 0) (drop l.j (from l.n l.filler)) ≡ filler_clear l.n l.s)

abbrev pub decreases-loop-j : goal.decreases-loop-j
decreases-loop-j l = l.filler - l.j
