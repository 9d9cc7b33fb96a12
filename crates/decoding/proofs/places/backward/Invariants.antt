-- The loop's invariant: the first i coefficients are written. Assumes nothing.
use mathlib.Core.Path.{◌≡◌}
use Prim.Native.Nat.{◌-◌, ◌≤◌}
use lib.ListN.{length, take}
use Rattle.bits.specs.Bits.{padded}
use Rattle.decoder.specs.Decoding.{backward}
use Rattle.decoding.proofs.places.backward.Given as goal

abbrev pub invariant-loop-i : goal.invariant-loop-i
invariant-loop-i l = (l.i ≤ l.l) × (length l.q ≡ 256) × (l.q ≡ padded 256 (take l.i (backward l.c l.l)))

abbrev pub decreases-loop-i : goal.decreases-loop-i
decreases-loop-i l = l.l - l.i
