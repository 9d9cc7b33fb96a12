-- The loop's invariant: the first k sums, and the powers k. Assumes nothing.
use mathlib.Core.Path.{◌≡◌}
use mathlib.Core.List.{map}
use Prim.Native.Nat.{◌-◌, ◌*◌, ◌≤◌, ◌<◌}
use lib.ListN.{length, take}
use Rattle.bits.specs.Bits.{padded}
use Rattle.field.specs.Answers.{inverse_number}
use Rattle.key.specs.Keys.{goppa_at, key_of}
use Rattle.bench_calls.proofs.Powers.{powers, sums}
use Rattle.bench_calls.proofs.sums.each_sum.Given as goal

abbrev pub invariant-loop-k : goal.invariant-loop-k
invariant-loop-k l = (l.k ≤ 2 * length l.g) × (length l.s ≡ 256) × (length l.p ≡ 8192)
    × (l.s ≡ padded 256 (take l.k (sums l.m l.g l.points))) × (l.p ≡ powers l.m l.points l.k)
    × (0 < l.k → inverse_number l.m (map (goppa_at (key_of l.m l.points l.g)) l.points) ≡ 0)

abbrev pub decreases-loop-k : goal.decreases-loop-k
decreases-loop-k l = 2 * length l.g - l.k
