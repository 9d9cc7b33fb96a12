-- The loop's invariant: the first i numbers of src are added to dst. Assumes nothing.
use mathlib.Core.Path.{refl, sym, ap, ◌∙◌}
use mathlib.Core.List.{List}
use Prim.Native.Nat.{ℕ}
use native.Mathlib.Omega.{arith}
use native.Mathlib.Numerals.{add-one}
use lib.ListN.{get_or, take, set, length-set}
use Rattle.bits.specs.Xor.{◌⊕◌}
use Rattle.bits.specs.Bits.{xor_row}
use Rattle.bits.proofs.Rows.{xor_row-nil, xor_row-suc, xor_row-take}
use Rattle.packed.proofs.xor_row.Goals as goal

pub loop-i-init : goal.loop-i-init
loop-i-init c = (omega arith, refl, sym (xor_row-nil _))

pub loop-i-preserved : goal.loop-i-preserved
unfolding ◌⊕◌
loop-i-preserved c =
    let l = c.loop-i in
    let a = c.args in (
      omega arith,
      simp length-set (omega arith),
      ap (λ (d : List ℕ). set d l.i (get_or d l.i 0 ⊕ get_or a.src.now l.i 0)) l.invariant.2
          ∙ xor_row-suc a.dst.now a.src.now l.i (omega arith) (omega arith)
          ∙ ap (λ (n : ℕ). xor_row a.dst.now (take n a.src.now)) (sym (add-one l.i)),
    )

pub returns : goal.returns
returns c =
    let l = c.loop-i in
    let a = c.args in
    l.invariant.2 ∙ xor_row-take a.dst.now a.src.now l.i (λ h. omega arith)
