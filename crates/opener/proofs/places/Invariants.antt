-- The invariant: the places that are left, written behind the others, give all places. Assumes nothing.
use mathlib.Core.Path.{◌≡◌}
use Prim.Native.Nat.{◌-◌, ◌≤◌}
use lib.ListN.{length}
use Rattle.bits.specs.Bits.{unpack}
use Rattle.opener.specs.Report.{places}
use Rattle.opener.proofs.Written.{Left}
use Rattle.opener.proofs.Text.{places_left}
use Rattle.opener.proofs.places.Given as goal

abbrev pub invariant-loop-i : goal.invariant-loop-i
invariant-loop-i l =
    (l.i ≤ l.n) × (length l.out ≡ length l.initial.out) × Left (places_left l.pattern l.n l.i) l.out l.next (places 0 (unpack l.n l.pattern)) l.initial.out l.at

abbrev pub decreases-loop-i : goal.decreases-loop-i
decreases-loop-i l = l.n - l.i
