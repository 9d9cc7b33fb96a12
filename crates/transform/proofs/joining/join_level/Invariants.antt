-- `transform::joining::join_level` meets its contract. Assumes nothing.
use mathlib.Core.Path.{◌≡◌}
use Prim.Native.Nat.{◌+◌, ◌-◌, ◌*◌, ◌≤◌, ◌<◌}
use lib.ListN.{length}
use Rattle.levels.specs.Twist.{each_block}
use Rattle.transform.specs.Values.{butterfly}
use Rattle.transform.proofs.joining.join_level.Given as goal

abbrev pub invariant-loop-k : goal.invariant-loop-k
invariant-loop-k l =
    (l.k ≤ l.q) × (l.at ≡ l.k * l.w) × (length l.b ≡ length l.initial.b) × (l.b ≡ each_block (butterfly l.m l.g) l.w l.k l.initial.b) × (l.k < l.q → l.at + l.w ≤ length l.b) × (length l.p ≡ 4096)

abbrev pub decreases-loop-k : goal.decreases-loop-k
decreases-loop-k l = l.q - l.k
