-- `levels::adding::copy_each` meets its contract. Assumes nothing.
use mathlib.Core.Path.{refl, sym, ap, ◌∙◌}
use mathlib.Core.List.{List}
use Prim.Native.Nat.{ℕ}
use native.Mathlib.Omega.{arith}
use native.Mathlib.Numerals.{add-one}
use lib.ListN.{get_or, take, set, length-set}
use Rattle.bits.specs.Bits.{each_with}
use Rattle.bits.proofs.Each.{each_with-nil, each_with-suc, each_with-take}
use Rattle.levels.proofs.adding.copy_each.Goals as goal

pub loop-i-init : goal.loop-i-init
loop-i-init c = (omega arith, refl, sym (each_with-nil _ _))

pub loop-i-preserved : goal.loop-i-preserved
loop-i-preserved c =
    let l = c.loop-i in
    let a = c.args in (
      omega arith,
      simp length-set (omega arith),
      ap (λ (d : List ℕ). set d l.i (get_or a.s.now l.i 0)) l.invariant.2
          ∙ each_with-suc (λ x y. y) a.r.now a.s.now l.i (omega arith) (omega arith)
          ∙ ap (λ (n : ℕ). each_with (λ x y. y) a.r.now (take n a.s.now)) (sym (add-one l.i)),
    )

pub returns : goal.returns
returns c =
    let l = c.loop-i in
    let a = c.args in
    l.invariant.2 ∙ each_with-take (λ x y. y) a.r.now a.s.now l.i (λ h. omega arith)
