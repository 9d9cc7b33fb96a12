-- `levels::twisting::powers` meets its contract. Assumes nothing.
use mathlib.Core.Path.{◌≡◌}
use Prim.Native.Nat.{◌-◌, ◌≤◌, min}
use lib.ListN.{take}
use Rattle.bits.specs.Bits.{padded}
use Rattle.field.specs.Field.{power}
use Rattle.levels.specs.Twist.{powers_of}
use Rattle.levels.proofs.twisting.powers.Given as goal

abbrev pub invariant-loop-i : goal.invariant-loop-i
invariant-loop-i l = (l.i ≤ l.e) × (l.e ≡ min l.n 512) × (l.s ≡ power l.m l.b l.i) × (l.r ≡ padded 512 (take l.i (powers_of l.m l.b l.e)))

abbrev pub decreases-loop-i : goal.decreases-loop-i
decreases-loop-i l = l.e - l.i
