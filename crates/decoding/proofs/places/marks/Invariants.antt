-- The loop's invariant: the marks from place 8·q on are left to write. Assumes nothing.
use mathlib.Core.Path.{◌≡◌}
use mathlib.Core.List.{map}
use Prim.Native.Nat.{◌-◌, ◌*◌, ◌≤◌}
use lib.ListN.{length, drop, replicate}
use Rattle.bits.specs.Bits.{put_bits}
use Rattle.decoding.specs.Parts.{mark}
use Rattle.decoding.proofs.places.marks.Given as goal

abbrev pub invariant-loop-q : goal.invariant-loop-q
invariant-loop-q l =
    (l.q ≤ l.whole) × (l.at ≡ 8 * l.q) × (length l.pattern ≡ 1024)
    × (put_bits (drop (8 * l.q) (map mark l.values)) (8 * l.q) l.pattern ≡ put_bits (map mark l.values) 0 (replicate 1024 0))

abbrev pub decreases-loop-q : goal.decreases-loop-q
decreases-loop-q l = l.whole - l.q
