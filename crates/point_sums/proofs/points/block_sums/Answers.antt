-- The loop's invariant: the first j sums are added, and p has the terms of the sum j. Assumes nothing.
use mathlib.Core.Path.{◌≡◌, refl, ap, ◌∙◌}
use Prim.Native.Nat.{◌<◌}
use native.Mathlib.Omega.{arith}
use lib.ListN.{length, length-set}
use borrow.Author.Rules.{rules}
use Rattle.bits.specs.Xor.{◌⊕◌}
use Rattle.field.specs.PointTable.{combine_each}
use Rattle.poly.specs.Polynomials.{sum}
use Rattle.point_sums.proofs.Blocks.{terms_start, terms_total, terms_next, added-start, added_next, added_all}
use Rattle.point_sums.proofs.points.block_sums.Goals as goal

pub loop-j-init : goal.loop-j-init
loop-j-init c =
    let a = c.args in
    let l : length c.low_digits-p.result ≡ 64 = search rules in (
      omega arith,
      refl,
      l,
      added-start a.m a.w.now a.points.now a.k a.s.now,
      c.low_digits-p.ensures ∙ terms_start a.m a.w.now a.points.now c.requires.2 c.requires.3 c.requires.0,
    )

pub loop-j-preserved : goal.loop-j-preserved
unfolding ◌⊕◌
loop-j-preserved c =
    let l = c.loop-j in
    let d = c.total in
    let h = c.horner_with in
    let a = c.args in
    let m = c.multiples-t in
    let u : l.j < a.k = c.loop-j-test.true in (
      omega arith,
      length-set l.s _ _ ∙ l.invariant.1,
      h.auto.r ∙ l.invariant.2,
      added_next a.m a.w.now a.points.now a.k a.s.now l.j (omega arith) c.requires.1 l.s l.invariant.3 _
          (d.ensures ∙ ap sum l.invariant.4 ∙ terms_total a.m a.w.now a.points.now c.requires.2 c.requires.3 l.j),
      h.ensures ∙ ap (combine_each m.result 0) l.invariant.4
          ∙ terms_next a.m a.w.now a.points.now c.requires.2 c.requires.3 c.requires.0 m.result m.ensures l.j,
    )

pub shape_of-s : goal.shape_of-s
shape_of-s c = c.loop-j.invariant.1

pub returns : goal.returns
returns c =
    let l = c.loop-j in
    let a = c.args in
    l.invariant.3 ∙ added_all a.m a.w.now a.points.now a.k a.s.now l.j (omega arith)
