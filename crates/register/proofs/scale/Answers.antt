-- The loop's invariant: the first i places are done. Assumes nothing.
use mathlib.Core.Path.{refl, ap, ◌∙◌}
use mathlib.Core.List.{List}
use Prim.Native.Nat.{ℕ}
use native.Mathlib.Omega.{arith}
use lib.ListN.{get_or, set, length-set}
use Rattle.field.specs.Field.{mul}
use Rattle.field.proofs.PointTable.{digit_sum-mul}
use Rattle.register.proofs.Loops.{multiples_fit, scaled_none, scaled-next, scaled_all}
use Rattle.register.proofs.scale.Goals as goal

pub loop-i-init : goal.loop-i-init
loop-i-init c = (omega arith, refl, scaled_none _ _ _)

pub combined-requires : goal.combined-requires
combined-requires c = multiples_fit c.args.m c.args.a c.requires.0 c.multiples-t.result c.multiples-t.ensures

pub loop-i-preserved : goal.loop-i-preserved
loop-i-preserved c =
    let l = c.loop-i in
    let a = c.args in (
      omega arith,
      length-set l.c _ _ ∙ l.invariant.1,
      ap (set l.c l.i) (c.combined.ensures ∙ digit_sum-mul a.m c.requires.0 a.a _ c.multiples-t.ensures _)
          ∙ ap (λ (r : List ℕ). set r l.i (mul a.m a.a (get_or r l.i 0))) l.invariant.2
          ∙ scaled-next a.m a.a a.c.now l.i (omega arith),
    )

pub shape_of-c : goal.shape_of-c
shape_of-c c = c.loop-i.invariant.1

pub returns : goal.returns
returns c =
    let l = c.loop-i in
    l.invariant.2 ∙ scaled_all c.args.m c.args.a c.args.c.now c.args.l l.i (omega arith) c.requires.3
