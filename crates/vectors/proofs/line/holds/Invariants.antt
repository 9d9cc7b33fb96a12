-- The invariant: the places from i on decide. Assumes nothing.
use mathlib.Core.Path.{◌≡◌}
use Prim.Native.Nat.{◌-◌, ◌≤◌}
use lib.ListN.{get_or}
use Rattle.vectors.specs.Lines.{byte_or_filler, holds_of}
use Rattle.vectors.proofs.Places.{same_from}
use Rattle.vectors.proofs.line.holds.Given as goal

abbrev pub invariant-loop-i : goal.invariant-loop-i
invariant-loop-i l = (l.i ≤ 64) × (same_from (λ j. get_or l.buffer j 0) (byte_or_filler l.b) 64 l.i ≡ holds_of l.buffer l.b)

abbrev pub decreases-loop-i : goal.decreases-loop-i
decreases-loop-i l = 64 - l.i
