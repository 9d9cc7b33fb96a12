-- The loop's invariant: r has the i lowest digits of x, and y the others. Assumes nothing.
use mathlib.Core.Path.{◌≡◌}
use Prim.Native.Nat.{◌+◌, ◌-◌, ◌*◌, ◌^◌, ◌≤◌, ◌<◌}
use Rattle.network_key.specs.Files.{reversed}
use Rattle.network_file.proofs.reversed.Given as goal

abbrev pub invariant-loop-i : goal.invariant-loop-i
invariant-loop-i l = (l.i ≤ 13) × (l.r < 2 ^ l.i) × (l.r * 2 ^ (13 - l.i) + reversed (13 - l.i) l.y ≡ reversed 13 l.x)

abbrev pub decreases-loop-i : goal.decreases-loop-i
decreases-loop-i l = 13 - l.i
