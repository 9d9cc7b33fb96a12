-- `transform::gathering::values` meets its contract. Assumes nothing.
use mathlib.Core.Path.{refl, ◌∙◌}
use native.Mathlib.Nat.{min-le_right}
use native.Mathlib.Omega.{arith}
use lib.ListN.{length}
use Rattle.poly.proofs.AtPoints.{each_values}
use Rattle.transform.proofs.Whole.{gathered_values}
use Rattle.transform.proofs.gathering.values.Goals as goal

pub worth-requires : goal.worth-requires
worth-requires c =
    let p = c.args.points.now in
    omega (arith, c.smaller.ensures, min-le_right (length p) 8192)

pub everywhere-requires : goal.everywhere-requires
everywhere-requires c =
    let w = c.worth.ensures c.if-worth.true in
    (w.0, w.1, w.2, refl)

pub gather-requires : goal.gather-requires
gather-requires c = (c.worth.ensures c.if-worth.true).0

pub returns-then-worth : goal.returns-then-worth
returns-then-worth c =
    let a = c.args in
    gathered_values a.m (c.worth.ensures c.if-worth.true).0 a.g.now a.points.now c.everywhere.ensures c.gather.ensures

pub returns : goal.returns
returns c =
    let a = c.args in
    c.value_each.ensures ∙ each_values a.m a.g.now a.points.now
