-- The loop's invariant: the low digits of the first i numbers, and zeros behind them. Assumes nothing.
use mathlib.Core.Path.{◌≡◌}
use mathlib.Core.List.{map}
use Prim.Native.Nat.{◌-◌, ◌%◌, ◌^◌, ◌≤◌}
use lib.ListN.{length, take}
use Rattle.bits.specs.Bits.{padded}
use Rattle.point_sums.proofs.points.low_digits.Given as goal

abbrev pub invariant-loop-i : goal.invariant-loop-i
invariant-loop-i l = (l.i ≤ length l.w) × (l.p ≡ padded 64 (take l.i (map (λ x. x % 2 ^ l.m) l.w)))

abbrev pub decreases-loop-i : goal.decreases-loop-i
decreases-loop-i l = length l.w - l.i
