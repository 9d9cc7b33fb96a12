-- The loop's invariant: the sum of the bits of `sums` is the product of the first q bytes. Assumes nothing.
use mathlib.Core.Path.{sym, ap, ap₂, ◌∙◌}
use mathlib.Core.List.{List, map}
use Prim.Native.Nat.{ℕ, ◌*◌, ◌%◌}
use native.Mathlib.Omega.{arith}
use lib.Count.{ones}
use Rattle.bits.specs.Xor.{◌⊕◌}
use Rattle.bits.specs.Bits.{from, bit_at, number, unpack, dot}
use Rattle.bits.proofs.Ones.{no_ones}
use Rattle.bits.proofs.Parts.{part_all}
use Rattle.bits.proofs.Product.{row_product_byte, row_product_short}
use Rattle.packed.proofs.row_product.Goals as goal

pub loop-q-init : goal.loop-q-init
unfolding unpack dot from
loop-q-init c = (omega arith, ap (◌% 2) no_ones)

pub loop-q-preserved : goal.loop-q-preserved
unfolding ◌⊕◌
loop-q-preserved c =
    let l = c.loop-q in
    let a = c.args in (
      omega arith,
      ap (λ (x : ℕ). ones (l.sums ⊕ x) % 2)
          (c.products-sums.ensures
          ∙ ap₂ (λ (r p : List ℕ). number (map (λ k. bit_at r k * bit_at p k) (from 0 8))) (part_all l.q a.row.now) (part_all l.q a.pat.now))
          ∙ row_product_byte a.row.now a.pat.now l.sums l.q l.invariant.1,
    )

pub returns : goal.returns
returns c =
    let l = c.loop-q in
    let a = c.args in
    c.parity.ensures
    ∙ l.invariant.1
    ∙ sym (row_product_short l.q a.row.now a.pat.now (omega arith) (λ h. omega arith))
