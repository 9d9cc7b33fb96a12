-- The row is the part of the public key from its first byte on, as long as the tail. Assumes nothing.
use mathlib.Core.Path.{◌≡◌, ap, ◌∙◌}
use Prim.Native.Nat.{ℕ, ◌+◌, ◌-◌}
use native.Mathlib.Omega.{arith}
use lib.ListN.{length, take, drop}
use Rattle.bits.specs.Bits.{row_product}
use Rattle.locking.proofs.row_bit.Goals as goal

pub returns : goal.returns
returns c =
    let a = c.args in
    let e : a.at + length a.tail.now - a.at ≡ length a.tail.now = omega arith in
    c.row_product.ensures ∙ ap (λ (n : ℕ). row_product (take n (drop a.at a.public.now)) a.tail.now) e
