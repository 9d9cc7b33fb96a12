-- The loop's invariant: d, with the places from i to l, is the whole sum. Assumes nothing.
use mathlib.Core.Path.{◌≡◌}
use mathlib.Core.List.{map}
use Prim.Native.Nat.{◌+◌, ◌-◌, ◌≤◌}
use lib.ListN.{get_or}
use Rattle.bits.specs.Xor.{◌⊕◌}
use Rattle.bits.specs.Bits.{from}
use Rattle.poly.specs.Polynomials.{sum}
use Rattle.poly.proofs.Steps.{rest}
use Rattle.register.proofs.total.Given as goal

abbrev pub invariant-loop-i : goal.invariant-loop-i
invariant-loop-i l = (l.i ≤ l.l + 1) × (rest l.p l.l l.d l.i ≡ l.initial.d ⊕ sum (map (λ k. get_or l.p k 0) (from 1 l.l)))

abbrev pub decreases-loop-i : goal.decreases-loop-i
decreases-loop-i l = l.l + 1 - l.i
