-- `power_sums::totals::fold_down` meets its contract. Assumes nothing.
use mathlib.Core.Path.{◌≡◌, refl, sym, ap, ◌∙◌}
use Prim.Native.Nat.{ℕ, ◌+◌}
use native.Mathlib.Omega.{arith}
use lib.ListN.{length}
use borrow.Author.Rules.{rules}
use Rattle.field.proofs.Table.{width_narrow}
use Rattle.levels.proofs.TwoPowers.{two_below}
use Rattle.power_sums.specs.Sums.{weights_of}
use Rattle.power_sums.proofs.Summing.{half_fits, factors_few, fold_length, weights_next, weights_length}
use Rattle.power_sums.proofs.totals.fold_down.Goals as goal

pub loop-j-init : goal.loop-j-init
unfolding weights_of
loop-j-init c = (omega arith, refl, refl)

pub overflow_add-h : goal.overflow_add-h
overflow_add-h c =
    let l = c.loop-j in
    omega (arith, half_fits c.args.m c.args.k l.j c.two-h.result c.args.g.now (omega arith) (omega arith) (width_narrow _ c.requires.0) c.two-h.ensures (search rules))

pub offset_bounds-f-h : goal.offset_bounds-f-h
offset_bounds-f-h c =
    let l = c.loop-j in
    omega (arith, half_fits c.args.m c.args.k l.j c.two-h.result c.args.g.now (omega arith) (omega arith) (width_narrow _ c.requires.0) c.two-h.ensures (search rules))

pub slice_bounds-fold_level-end : goal.slice_bounds-fold_level-end
slice_bounds-fold_level-end c =
    let l = c.loop-j in
    omega (arith, half_fits c.args.m c.args.k l.j c.two-h.result c.args.g.now (omega arith) (omega arith) (width_narrow _ c.requires.0) c.two-h.ensures (search rules))

pub fold_level-requires : goal.fold_level-requires
fold_level-requires c =
    let l = c.loop-j in
    let a = c.args in
    let n = width_narrow _ c.requires.0 in (
      c.requires.0,
      fold_length a.m a.k l.j c.two-h.result a.g.now (omega arith) (omega arith) n c.two-h.ensures c.requires.3 c.two.result
          (two_below _ c.two.ensures (omega arith)) (l.invariant.1 ∙ c.requires.2),
      factors_few a.m a.k l.j c.two-h.result a.g.now (omega arith) (omega arith) n c.two-h.ensures c.requires.3,
    )

pub loop-j-preserved : goal.loop-j-preserved
loop-j-preserved c =
    let l = c.loop-j in
    let a = c.args in
    let n = width_narrow _ c.requires.0 in
    let e = weights_next a.m a.k l.j c.two-h.result a.g.now (omega arith) (omega arith) n c.two-h.ensures c.requires.3 c.two.result (two_below _ c.two.ensures (omega arith)) a.d.now l.d _ l.invariant.2 c.fold_level.ensures in
    (omega arith, ap length e ∙ weights_length a.m a.d.now c.requires.0 c.requires.2 (l.j + 1) (omega arith) ∙ sym c.requires.2, e)

pub returns : goal.returns
returns c =
    let l = c.loop-j in
    let a = c.args in
    let e : l.j ≡ a.k = omega arith in
    l.invariant.2 ∙ ap (λ (i : ℕ). weights_of a.m i a.d.now) e
