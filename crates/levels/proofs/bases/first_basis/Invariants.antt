-- `levels::bases::first_basis` meets its contract. Assumes nothing.
use mathlib.Core.Path.{◌≡◌}
use Prim.Native.Nat.{◌-◌, ◌^◌, ◌≤◌}
use lib.ListN.{take}
use Rattle.bits.specs.Bits.{padded, from}
use mathlib.Core.List.{map}
use Rattle.levels.proofs.bases.first_basis.Given as goal

abbrev pub invariant-loop-i : goal.invariant-loop-i
invariant-loop-i l = (l.i ≤ l.m) × (l.r ≡ padded 16 (take l.i (map (λ j. 2 ^ j) (from 0 l.m))))

abbrev pub decreases-loop-i : goal.decreases-loop-i
decreases-loop-i l = l.m - l.i
