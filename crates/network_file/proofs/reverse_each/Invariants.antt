-- The loop's invariant: the first i numbers are done. Assumes nothing.
use mathlib.Core.Path.{◌≡◌}
use Prim.Native.Nat.{◌-◌, ◌≤◌}
use lib.ListN.{length}
use Rattle.network_key.specs.Files.{reversed}
use Rattle.switching.proofs.Places.{mapped_to}
use Rattle.network_file.proofs.reverse_each.Given as goal

abbrev pub invariant-loop-i : goal.invariant-loop-i
invariant-loop-i l =
    (l.i ≤ length l.initial.places) × (length l.places ≡ length l.initial.places) × (l.places ≡ mapped_to (reversed l.m) l.initial.places l.i)

abbrev pub decreases-loop-i : goal.decreases-loop-i
decreases-loop-i l = length l.initial.places - l.i
