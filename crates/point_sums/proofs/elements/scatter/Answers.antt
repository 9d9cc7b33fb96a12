-- The loop's invariant: with the weights from i on added, d is the whole. Assumes nothing.
use mathlib.Core.Path.{sym, ◌∙◌}
use Prim.Native.Nat.{ℕ}
use native.Mathlib.Omega.{arith}
use lib.ListN.{get_or, length-set, length-replicate}
use lib.Pow.{pow_pos}
use Rattle.bits.specs.Xor.{◌⊕◌}
use Rattle.field.proofs.Machine.{one_shl, low-digits}
use Rattle.field.proofs.Table.{width_narrow}
use Rattle.point_sums.proofs.Scattered.{place-lt, added-start, added_next, added_all}
use Rattle.point_sums.proofs.elements.scatter.Goals as goal

pub overflow_shl-mask : goal.overflow_shl-mask
overflow_shl-mask c = omega (arith, width_narrow c.args.m c.requires)

pub overflow_sub-mask : goal.overflow_sub-mask
overflow_sub-mask c = rw (one_shl c.args.m (width_narrow c.args.m c.requires)) (pow_pos c.args.m)

pub loop-i-init : goal.loop-i-init
loop-i-init c = (omega arith, length-replicate {A = ℕ} 8192 0, added-start _ _ _)

pub overflow_cast-a : goal.overflow_cast-a
overflow_cast-a c =
    let l = c.loop-i in
    omega (arith, place-lt c.args.m c.requires (get_or c.args.points.now l.i 0))

pub offset_bounds-d-a : goal.offset_bounds-d-a
offset_bounds-d-a c =
    let l = c.loop-i in
    omega (arith, place-lt c.args.m c.requires (get_or c.args.points.now l.i 0))

pub bounds-d-a : goal.bounds-d-a
bounds-d-a c =
    let l = c.loop-i in
    place-lt c.args.m c.requires (get_or c.args.points.now l.i 0)

pub bounds-d-a-in-loop-i : goal.bounds-d-a-in-loop-i
bounds-d-a-in-loop-i c =
    let l = c.loop-i in
    place-lt c.args.m c.requires (get_or c.args.points.now l.i 0)

pub loop-i-preserved : goal.loop-i-preserved
unfolding ◌⊕◌
loop-i-preserved c =
    let l = c.loop-i in
    let a = c.args in
    let e = low-digits a.m (width_narrow a.m c.requires) (get_or a.points.now l.i 0) in
    (omega arith, length-set l.d _ _ ∙ l.invariant.1, added_next a.m a.w.now a.points.now l.d l.i _ (omega arith) (omega arith) e ∙ l.invariant.2)

pub returns : goal.returns
returns c =
    let l = c.loop-i in
    let a = c.args in
    sym (added_all a.m a.w.now a.points.now l.d l.i (omega arith)) ∙ l.invariant.2
