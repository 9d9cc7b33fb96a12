-- The loop's invariant: the points found so far, with those of the places from i on, are all. Assumes nothing.
use mathlib.Core.Path.{◌≡◌}
use Prim.Native.Nat.{◌-◌, ◌≤◌}
use lib.ListN.{length}
use Rattle.bits.specs.Bits.{unpack}
use Rattle.decoder.specs.Decoding.{chosen as chosen_of}
use Rattle.decoding.proofs.Gathered.{gathered}
use Rattle.decoding.proofs.points.chosen.Given as goal

abbrev pub invariant-loop-i : goal.invariant-loop-i
invariant-loop-i l = (l.i ≤ length l.support) × (l.count ≤ l.i) × (length l.at ≡ 8192)
    × (gathered l.count l.at (unpack (length l.support) l.word) l.support l.i ≡ chosen_of (unpack (length l.support) l.word) l.support)

abbrev pub decreases-loop-i : goal.decreases-loop-i
decreases-loop-i l = length l.support - l.i
