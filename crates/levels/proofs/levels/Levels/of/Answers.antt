-- `levels::levels::Levels::of` meets its contract. Assumes nothing.
use Rattle.field.proofs.Table.{modulus_none, modulus_some}
use Rattle.levels.proofs.Filled.{levels_none, levels_width}
use Rattle.levels.proofs.levels.Levels.of.Goals as goal

pub returns-then-modulus-eq0 : goal.returns-then-modulus-eq0
returns-then-modulus-eq0 c = levels_none c.args.m (modulus_none _ c.modulus.ensures c.if-modulus-eq0.true)

pub filled-requires : goal.filled-requires
filled-requires c = modulus_some _ c.modulus.ensures c.if-modulus-eq0.false

pub returns : goal.returns
returns c = levels_width c.args.m (modulus_some _ c.modulus.ensures c.if-modulus-eq0.false) c.filled.ensures.tops c.filled.ensures.factors
