-- The loop's invariant: the values of the polynomial with the coefficients from k on. Assumes nothing.
use mathlib.Core.Path.{◌≡◌, refl, ap, ◌∙◌}
use Prim.Native.Nat.{◌-◌}
use native.Mathlib.Omega.{arith}
use lib.ListN.{get_or}
use Rattle.field.specs.PointTable.{combine_each}
use Rattle.poly.proofs.AtPoints.{values_from, from_start, from_step}
use Rattle.poly.proofs.horner.value_block.Goals as goal

pub loop-k-init : goal.loop-k-init
loop-k-init c = let a = c.args in (omega arith, refl, from_start a.m a.g.now a.r.now a.a.now)

pub loop-k-preserved : goal.loop-k-preserved
loop-k-preserved c =
    let l = c.loop-k in
    let a = c.args in
    let h = c.horner_with in (
      omega arith,
      h.auto.r ∙ l.invariant.1,
      h.ensures ∙ ap (combine_each c.multiples-t.result (get_or a.g.now (l.k - 1) 0)) l.invariant.2
          ∙ from_step a.m a.g.now a.r.now a.a.now c.requires.0 _ c.multiples-t.ensures
          c.requires.1 c.requires.2 l.k (omega arith) l.invariant.0,
    )

pub returns : goal.returns
unfolding values_from
returns c =
    let l = c.loop-k in
    let a = c.args in
    let e : l.k ≡ 0 = omega arith in
    l.invariant.2 ∙ ap (values_from a.m a.g.now a.r.now a.a.now) e
