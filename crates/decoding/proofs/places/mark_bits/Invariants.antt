-- The loop's invariant: the marks from i on are left to write. Assumes nothing.
use mathlib.Core.Path.{◌≡◌}
use mathlib.Core.List.{map}
use Prim.Native.Nat.{◌-◌, ◌≤◌}
use lib.ListN.{length, drop}
use Rattle.bits.specs.Bits.{put_bits}
use Rattle.decoding.specs.Parts.{mark}
use Rattle.decoding.proofs.places.mark_bits.Given as goal

abbrev pub invariant-loop-i : goal.invariant-loop-i
invariant-loop-i l =
    (l.i ≤ length l.values) × (put_bits (drop l.i (map mark l.values)) l.i l.out ≡ put_bits (map mark l.values) 0 l.initial.out)

abbrev pub decreases-loop-i : goal.decreases-loop-i
decreases-loop-i l = length l.values - l.i
