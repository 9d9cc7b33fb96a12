-- The loop's invariant: the first i places are done. Assumes nothing.
use mathlib.Core.Path.{refl, ap, ◌∙◌}
use Prim.Native.Nat.{ℕ}
use native.Mathlib.Omega.{arith}
use mathlib.Core.List.{List}
use lib.ListN.{get_or, set, length-set}
use Rattle.bits.specs.Xor.{◌⊕◌}
use Rattle.field.specs.PointTable.{combination}
use Rattle.field.proofs.PointTable.{combined_start, combined_next, combined_all}
use Rattle.field_places.proofs.horner_with.Goals as goal

pub loop-i-init : goal.loop-i-init
loop-i-init c = (omega arith, refl, combined_start _ _ _)

pub loop-i-preserved : goal.loop-i-preserved
unfolding ◌⊕◌
loop-i-preserved c =
    let l = c.loop-i in
    let a = c.args in (
      omega arith,
      length-set l.r _ _ ∙ l.invariant.1,
      ap (λ (v : ℕ). set l.r l.i (v ⊕ a.c)) c.combined.ensures
          ∙ ap (λ (r : List ℕ). set r l.i (combination a.t.now l.i (get_or r l.i 0) ⊕ a.c)) l.invariant.2
          ∙ combined_next a.t.now a.c a.r.now l.i (omega arith) (omega arith),
    )

pub returns : goal.returns
returns c =
    let l = c.loop-i in
    let a = c.args in
    l.invariant.2 ∙ combined_all a.t.now a.c a.r.now l.i (λ h. omega arith)
