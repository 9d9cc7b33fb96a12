-- `power_sums::totals::power_sums` meets its contract. Assumes nothing.
use Rattle.field.proofs.Table.{modulus_none, modulus_some}
use Rattle.power_sums.proofs.Summing.{no_sums}
use Rattle.power_sums.proofs.totals.power_sums.Goals as goal

pub returns-then-modulus-eq0 : goal.returns-then-modulus-eq0
returns-then-modulus-eq0 c = let a = c.args in no_sums a.m a.w (modulus_none _ c.modulus.ensures c.if-modulus-eq0.true)

pub first_powers-requires : goal.first_powers-requires
first_powers-requires c = modulus_some _ c.modulus.ensures c.if-modulus-eq0.false

pub returns : goal.returns
returns c = c.first_powers.ensures
