-- The loop's invariant: the first i places are numbered. Assumes nothing.
use mathlib.Core.Path.{◌≡◌}
use mathlib.Core.List.{◌++◌}
use Prim.Native.Nat.{◌-◌, ◌≤◌}
use lib.ListN.{length, drop}
use Rattle.bits.specs.Bits.{from}
use Rattle.switching.proofs.positions.Given as goal

abbrev pub invariant-loop-i : goal.invariant-loop-i
invariant-loop-i l = (l.i ≤ length l.initial.places) × (length l.places ≡ length l.initial.places) × (l.places ≡ from 0 l.i ++ drop l.i l.initial.places)

abbrev pub decreases-loop-i : goal.decreases-loop-i
decreases-loop-i l = length l.initial.places - l.i
