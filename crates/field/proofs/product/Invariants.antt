-- `field::product` meets its contract. The loop's invariant: r is a times the polynomial of b's digits from k on.
-- Assumes nothing.
use mathlib.Core.Path.{◌≡◌}
use Prim.Native.Nat.{◌≤◌, ◌-◌, ◌/◌, ◌^◌}
use Rattle.field.proofs.Horner.{horner}
use Rattle.field.proofs.product.Given as goal

abbrev pub invariant-loop-k : goal.invariant-loop-k
invariant-loop-k l = (l.k ≤ l.n) × (l.r ≡ horner l.m l.f (l.n - l.k) (l.b / 2 ^ l.k) l.a)

abbrev pub decreases-loop-k : goal.decreases-loop-k
decreases-loop-k l = l.k
