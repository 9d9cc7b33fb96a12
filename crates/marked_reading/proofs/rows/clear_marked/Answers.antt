-- The loop's invariant: the bits that the first i bytes of the marks name are 0. Assumes nothing.
use mathlib.Core.Path.{refl, sym, ap, ◌∙◌}
use mathlib.Core.List.{List}
use Prim.Native.Nat.{ℕ}
use native.Mathlib.Omega.{arith}
use native.Mathlib.Numerals.{add-one}
use lib.ListN.{get_or, take, set, length-set}
use Rattle.bits.specs.Xor.{◌⊕◌}
use Rattle.bits.proofs.Each.{each_with-nil, each_with-suc, each_with-take}
use Rattle.marked_reading.specs.Parts.{steady_byte, cleared}
use Rattle.marked_reading.proofs.rows.clear_marked.Goals as goal

pub loop-i-init : goal.loop-i-init
unfolding cleared
loop-i-init c = (omega arith, refl, sym (each_with-nil _ _))

pub loop-i-preserved : goal.loop-i-preserved
unfolding cleared steady_byte ◌⊕◌
loop-i-preserved c =
    let l = c.loop-i in
    let a = c.args in (
      omega arith,
      simp length-set (omega arith),
      ap (λ (r : List ℕ). set r l.i (steady_byte (get_or r l.i 0) (get_or a.marks.now l.i 0))) l.invariant.2
          ∙ each_with-suc steady_byte a.row.now a.marks.now l.i (omega arith) (omega arith)
          ∙ ap (λ (n : ℕ). cleared a.row.now (take n a.marks.now)) (sym (add-one l.i)),
    )

pub returns : goal.returns
unfolding cleared
returns c =
    let l = c.loop-i in
    let a = c.args in
    l.invariant.2 ∙ each_with-take steady_byte a.row.now a.marks.now l.i (λ h. omega arith)
