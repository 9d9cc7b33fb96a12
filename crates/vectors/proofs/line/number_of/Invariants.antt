-- The invariant: the number of what is left, behind the digits read, is the field's. Assumes nothing.
use mathlib.Core.Path.{◌≡◌}
use Prim.Native.Nat.{◌-◌, ◌≤◌}
use lib.ListN.{length, drop}
use Rattle.vectors.specs.Lines.{decimal_from, number_of}
use Rattle.vectors.proofs.line.number_of.Given as goal

abbrev pub invariant-loop-i : goal.invariant-loop-i
invariant-loop-i l = (l.i ≤ length l.line) × (decimal_from l.x (drop l.i l.line) ≡ number_of l.line l.k)

abbrev pub decreases-loop-i : goal.decreases-loop-i
decreases-loop-i l = length l.line - l.i
