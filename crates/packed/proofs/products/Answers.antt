-- The loop's invariant: the first k products are the digits of d. Assumes nothing.
use mathlib.Core.Path.{◌≡◌, refl, ap, ap₂, ◌∙◌}
use mathlib.Core.List.{map}
use Prim.Native.Nat.{ℕ, ◌*◌, ◌%◌, ◌^◌}
use native.Mathlib.Omega.{arith}
use lib.Bits.{bit_and}
use Rattle.bits.specs.Xor.{◌⊕◌}
use Rattle.bits.specs.Bits.{from, bit_at, number}
use Rattle.bits.proofs.Bits.{bit_digit}
use Rattle.bits.proofs.Product.{products_next}
use Rattle.packed.proofs.products.Goals as goal

pub loop-k-init : goal.loop-k-init
unfolding number from
loop-k-init c = (omega arith, refl)

pub loop-k-preserved : goal.loop-k-preserved
unfolding ◌⊕◌
loop-k-preserved c =
    let l = c.loop-k in
    let a = c.args in
    let x = c.bit_at.ensures in
    let y = c.bit_at-in-loop-k.ensures in (
      omega arith,
      ap₂ ◌⊕◌ l.invariant.1 (ap₂ (λ (x y : ℕ). (bit_and x y * 2 ^ l.k) % 2 ^ 8) x y)
          ∙ products_next (bit_at a.row.now) (bit_at a.pat.now) (bit_digit a.row.now) (bit_digit a.pat.now) l.k (omega arith),
    )

pub returns : goal.returns
returns c =
    let l = c.loop-k in
    let a = c.args in
    let e : l.k ≡ 8 = omega arith in
    l.invariant.1 ∙ ap (λ (k : ℕ). number (map (λ i. bit_at a.row.now i * bit_at a.pat.now i) (from 0 k))) e
