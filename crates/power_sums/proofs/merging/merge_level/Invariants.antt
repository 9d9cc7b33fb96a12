-- `power_sums::merging::merge_level` meets its contract. Assumes nothing.
use mathlib.Core.Path.{◌≡◌}
use Prim.Native.Nat.{◌+◌, ◌-◌, ◌*◌, ◌≤◌}
use lib.ListN.{length}
use Rattle.levels.specs.Twist.{each_block}
use Rattle.power_sums.specs.Sums.{merged}
use Rattle.power_sums.proofs.merging.merge_level.Given as goal

abbrev pub invariant-loop-k : goal.invariant-loop-k
invariant-loop-k l = (l.k ≤ l.q) × (l.at ≡ l.k * (l.h + l.h)) × (length l.c ≡ length l.initial.c) × (l.c ≡ each_block (merged l.m l.b l.h) (l.h + l.h) l.k l.initial.c)

abbrev pub decreases-loop-k : goal.decreases-loop-k
decreases-loop-k l = l.q - l.k
