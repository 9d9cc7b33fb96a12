-- Assumes nothing.
use mathlib.Core.Path.{◌≡◌}
use mathlib.Core.List.{flat_map}
use Prim.Native.Nat.{◌+◌, ◌-◌, ◌*◌, ◌≤◌}
use lib.ListN.{length, drop}
use lib.Seq.{sets}
use Rattle.key.specs.Keys.{two_bytes}
use Rattle.key_write.proofs.put_elements.Given as goal

abbrev pub invariant-loop-i : goal.invariant-loop-i
invariant-loop-i l =
    (l.i ≤ length l.xs) × (length l.out ≡ length l.initial.out)
    × (sets l.out (l.at + 2 * l.i) (flat_map two_bytes (drop l.i l.xs)) ≡ sets l.initial.out l.at (flat_map two_bytes l.xs))

abbrev pub decreases-loop-i : goal.decreases-loop-i
decreases-loop-i l = length l.xs - l.i
