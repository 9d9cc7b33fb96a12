-- `levels::levels::filled` meets its contract. Assumes nothing.
use mathlib.Core.Path.{◌≡◌, refl, sym, ap, ◌∙◌}
use Prim.Native.Nat.{min}
use native.Mathlib.Nat.{min-le_left}
use native.Mathlib.Omega.{arith}
use lib.ListN.{length}
use Rattle.field.proofs.Table.{width_narrow}
use Rattle.levels.specs.Levels.{tops_put, factors_put}
use Rattle.levels.proofs.Filled.{length-factors_put, top_unit, tops_next, basis_next, factors_next}
use Rattle.levels.proofs.levels.filled.Goals as goal

pub first_basis-b-requires : goal.first_basis-b-requires
first_basis-b-requires c = c.requires

pub loop-j-init : goal.loop-j-init
unfolding tops_put factors_put
loop-j-init c = (omega arith, omega (arith, c.depth-k.ensures, min-le_left c.args.m 9), width_narrow _ c.requires, refl, refl, c.first_basis-b.ensures)

pub ratios-b-requires : goal.ratios-b-requires
ratios-b-requires c =
    let l = c.loop-j in
    (c.requires, omega arith, top_unit c.args.m l.j (omega arith) c.requires l.invariant.5)

pub slice_bounds-put_points-end : goal.slice_bounds-put_points-end
slice_bounds-put_points-end c =
    let l = c.loop-j in
    let e = ap length l.invariant.4 ∙ length-factors_put _ l.j l.invariant.2 (omega arith) in
    sym e

pub put_points-requires : goal.put_points-requires
put_points-requires c =
    let l = c.loop-j in
    (omega arith, ap length l.invariant.4 ∙ length-factors_put _ l.j l.invariant.2 (omega arith))

pub loop-j-preserved : goal.loop-j-preserved
loop-j-preserved c =
    let l = c.loop-j in
    let a = c.args in
    let er = c.ratios-b.ensures in (
      omega arith,
      l.invariant.1,
      l.invariant.2,
      tops_next a.m l.j (omega arith) l.b l.invariant.5 l.tops l.invariant.3,
      factors_next a.m l.j (omega arith) l.b l.invariant.5 _ er l.factors _ l.invariant.4 c.put_points.ensures,
      basis_next a.m l.j (omega arith) l.b l.invariant.5 _ er _ c.lowered-b.ensures,
    )

pub returns : goal.returns
returns c =
    let l = c.loop-j in
    let m = c.args.m in
    let e : l.j ≡ min m 9 = omega (arith, c.depth-k.ensures) in
    record { tops = l.invariant.3 ∙ ap (tops_put m) e; factors = l.invariant.4 ∙ ap (factors_put m) e }
