-- `transform::everywhere::transformed` meets its contract. Assumes nothing.
use mathlib.Core.Path.{◌∙◌}
use native.Mathlib.Omega.{arith}
use Rattle.field.proofs.Table.{width_narrow}
use Rattle.levels.proofs.Filled.{levels_tops, levels_factors}
use Rattle.levels.proofs.TwoPowers.{two_below}
use Rattle.transform.proofs.Wholes.{spread-size, spread-length, transform_form}
use Rattle.transform.proofs.everywhere.transformed.Goals as goal

pub descend-requires : goal.descend-requires
descend-requires c = (c.requires.0, c.requires.1, c.requires.2, c.requires.3, levels_tops c.args.m c.requires.0 c.of-l.ensures c.args.k c.requires.1 c.requires.2)

pub spread-requires : goal.spread-requires
spread-requires c =
    let a = c.args in
    let n = width_narrow _ c.requires.0 in
    spread-size a.m c.requires.0 a.k c.two.result a.c.now _ c.requires.3 c.requires.1 (two_below _ c.two.ensures (omega arith)) c.descend.ensures c.requires.4

pub ascend-requires : goal.ascend-requires
ascend-requires c =
    let a = c.args in
    let n = width_narrow _ c.requires.0 in
    let z = spread-size a.m c.requires.0 a.k c.two.result a.c.now _ c.requires.3 c.requires.1 (two_below _ c.two.ensures (omega arith)) c.descend.ensures c.requires.4 in
    (c.requires.0, c.requires.1, spread-length a.m a.k c.two.result _ _ c.spread.ensures z ∙ c.requires.4, levels_factors a.m c.requires.0 c.of-l.ensures a.k c.requires.1 c.requires.2)

pub returns : goal.returns
returns c =
    let a = c.args in
    let n = width_narrow _ c.requires.0 in
    transform_form a.m c.requires.0 a.k c.two.result a.c.now _ _ _ c.requires.3 c.requires.1 (two_below _ c.two.ensures (omega arith)) c.descend.ensures c.spread.ensures c.ascend.ensures
