-- The loop's invariant: the first i places are done. Assumes nothing.
use mathlib.Core.Path.{refl, sym, ap, ◌∙◌}
use mathlib.Core.List.{List}
use Prim.Native.Nat.{ℕ}
use native.Mathlib.Omega.{arith}
use native.Mathlib.Numerals.{add-one}
use lib.ListN.{get_or, take, set, length-set}
use Rattle.bits.specs.Xor.{◌⊕◌}
use Rattle.bits.specs.Bits.{each_with}
use Rattle.bits.proofs.Each.{each_with-nil, each_with-suc, each_with-take}
use Rattle.field.specs.Field.{mul}
use Rattle.field.proofs.Table.{modulus_none, modulus_some}
use Rattle.field.proofs.Products.{product_field}
use Rattle.field.proofs.Places.{horner_each_none, horner_each_width}
use Rattle.field_places.proofs.horner_each.Goals as goal

pub returns-then-f-eq0 : goal.returns-then-f-eq0
returns-then-f-eq0 c = sym (horner_each_none _ _ _ _ (modulus_none _ c.modulus-f.ensures c.if-f-eq0.true))

pub loop-i-init : goal.loop-i-init
loop-i-init c = (omega arith, refl, sym (each_with-nil _ _))

pub loop-i-preserved : goal.loop-i-preserved
unfolding ◌⊕◌
loop-i-preserved c =
    let l = c.loop-i in
    let a = c.args in
    let step : ℕ → ℕ → ℕ = λ x y. mul a.m x y ⊕ a.c in
    let w = modulus_some _ c.modulus-f.ensures c.if-f-eq0.false in (
      omega arith,
      simp length-set (omega arith),
      ap (λ (v : ℕ). set l.r l.i (v ⊕ a.c)) (c.lane_product.ensures ∙ product_field a.m _ (get_or l.r l.i 0) (get_or a.a.now l.i 0) w c.modulus-f.ensures)
          ∙ ap (λ (d : List ℕ). set d l.i (step (get_or d l.i 0) (get_or a.a.now l.i 0))) l.invariant.2
          ∙ each_with-suc step a.r.now a.a.now l.i (omega arith) (omega arith)
          ∙ ap (λ (n : ℕ). each_with step a.r.now (take n a.a.now)) (sym (add-one l.i)),
    )

pub returns : goal.returns
returns c =
    let l = c.loop-i in
    let a = c.args in
    l.invariant.2
    ∙ each_with-take _ a.r.now a.a.now l.i (λ h. omega arith)
    ∙ sym (horner_each_width _ _ _ _ (modulus_some _ c.modulus-f.ensures c.if-f-eq0.false))
