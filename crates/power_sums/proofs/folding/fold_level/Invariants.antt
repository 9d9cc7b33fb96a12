-- `power_sums::folding::fold_level` meets its contract. Assumes nothing.
use mathlib.Core.Path.{◌≡◌}
use Prim.Native.Nat.{◌+◌, ◌-◌, ◌*◌, ◌≤◌, ◌<◌}
use lib.ListN.{length}
use Rattle.levels.specs.Twist.{each_block}
use Rattle.power_sums.specs.Sums.{folded}
use Rattle.power_sums.proofs.folding.fold_level.Given as goal

abbrev pub invariant-loop-k : goal.invariant-loop-k
invariant-loop-k l =
    (l.k ≤ l.q) × (l.at ≡ l.k * l.w) × (length l.b ≡ length l.initial.b) × (l.b ≡ each_block (folded l.m l.g) l.w l.k l.initial.b) × (l.k < l.q → l.at + l.w ≤ length l.b) × (length l.p ≡ 4096)

abbrev pub decreases-loop-k : goal.decreases-loop-k
decreases-loop-k l = l.q - l.k
