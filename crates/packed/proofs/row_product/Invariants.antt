-- The loop's invariant: the sum of the bits of `sums` is the product of the first q bytes. Assumes nothing.
use mathlib.Core.Path.{◌≡◌}
use Prim.Native.Nat.{◌-◌, ◌*◌, ◌%◌, ◌≤◌}
use lib.Count.{ones}
use Rattle.bits.specs.Bits.{unpack, dot}
use Rattle.packed.proofs.row_product.Given as goal

abbrev pub invariant-loop-q : goal.invariant-loop-q
invariant-loop-q l = (l.q ≤ l.n) × (ones l.sums % 2 ≡ dot (unpack (8 * l.q) l.row) (unpack (8 * l.q) l.pat))

abbrev pub decreases-loop-q : goal.decreases-loop-q
decreases-loop-q l = l.n - l.q
