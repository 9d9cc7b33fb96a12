-- `power_sums::merging::weave` meets its contract. Assumes nothing.
use mathlib.Core.Path.{◌≡◌}
use Prim.Native.Nat.{◌-◌, ◌*◌, ◌≤◌}
use lib.ListN.{length, take, drop}
use Rattle.power_sums.specs.Sums.{zip}
use Rattle.bits.specs.Bits.{over}
use Rattle.power_sums.proofs.merging.weave.Given as goal

abbrev pub invariant-loop-i : goal.invariant-loop-i
invariant-loop-i l = (l.i ≤ l.h) × (length l.c ≡ length l.initial.c) × (l.c ≡ over (take (2 * l.i) (zip (take l.h l.t) (drop l.h l.t))) l.initial.c)

abbrev pub decreases-loop-i : goal.decreases-loop-i
decreases-loop-i l = l.h - l.i
