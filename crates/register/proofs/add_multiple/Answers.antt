-- The loop's invariant: the places below i are done. Assumes nothing.
use mathlib.Core.Path.{◌≡◌, refl, sym, ap, ◌∙◌}
use mathlib.Core.List.{List, map}
use Prim.Native.Nat.{ℕ, ◌-◌}
use native.Mathlib.Omega.{arith}
use lib.ListN.{length, get_or, set, length-set, length-map}
use Rattle.bits.specs.Xor.{◌⊕◌}
use Rattle.field.specs.Field.{mul}
use Rattle.field.proofs.PointTable.{digit_sum-mul}
use Rattle.field.proofs.Arrays.{multiple_at}
use Rattle.poly.proofs.Steps.{partly_start, partly_step, partly_past}
use Rattle.register.proofs.Across.{past_map}
use Rattle.register.proofs.Loops.{multiples_fit}
use Rattle.register.proofs.add_multiple.Goals as goal

pub loop-i-init : goal.loop-i-init
loop-i-init c = (omega arith, omega arith, refl, sym (partly_start _ _ _))

pub combined-requires : goal.combined-requires
combined-requires c = multiples_fit c.args.m c.args.a c.requires.0 c.multiples-t.result c.multiples-t.ensures

pub loop-i-preserved : goal.loop-i-preserved
unfolding ◌⊕◌
loop-i-preserved c =
    let l = c.loop-i in
    let a = c.args in
    let p : List ℕ = map (mul a.m a.a) a.b.now in
    let e : length p ≡ length a.b.now = length-map a.b.now (mul a.m a.a) in
    let v = c.combined.ensures ∙ digit_sum-mul a.m c.requires.0 a.a _ c.multiples-t.ensures _ ∙ sym (multiple_at a.m a.a a.b.now (l.i - a.y)) in (
      omega arith,
      omega arith,
      length-set l.c _ _ ∙ l.invariant.2,
      ap (λ (x : ℕ). set l.c l.i (get_or l.c l.i 0 ⊕ x)) v
          ∙ ap (λ (r : List ℕ). set r l.i (get_or r l.i 0 ⊕ get_or p (l.i - a.y) 0)) l.invariant.3
          ∙ partly_step a.c.now p a.y l.i (omega arith) (omega arith) (omega arith),
    )

pub shape_of-c : goal.shape_of-c
shape_of-c c = c.loop-i.invariant.2

pub returns : goal.returns
returns c =
    let l = c.loop-i in
    let a = c.args in
    l.invariant.3
    ∙ partly_past a.c.now (map (mul a.m a.a) a.b.now) a.y a.k l.i (omega arith)
    (past_map a.m a.a a.k a.b.now _ refl c.requires.4)
