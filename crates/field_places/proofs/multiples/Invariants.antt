-- The loop's invariant: the first q entries are made. Assumes nothing.
use mathlib.Core.Path.{◌≡◌}
use Prim.Native.Nat.{◌-◌, ◌*◌, ◌≤◌}
use Rattle.field.proofs.PointTable.{made}
use Rattle.field_places.proofs.multiples.Given as goal

abbrev pub invariant-loop-q : goal.invariant-loop-q
invariant-loop-q l = (64 ≤ l.q) × (l.q ≤ 64 * l.m) × (l.t ≡ made l.m l.a l.q)

abbrev pub decreases-loop-q : goal.decreases-loop-q
decreases-loop-q l = l.n - l.q
