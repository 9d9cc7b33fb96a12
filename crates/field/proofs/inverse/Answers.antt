-- `field::inverse` meets its contract. Assumes nothing.
use Rattle.field.specs.Answers.{inverse_of}
use Rattle.field.proofs.Verdicts.{verdict_accepted}
use Rattle.field.proofs.Guards.{refused, allowed}
use Rattle.field.proofs.Units.{accepted_width}
use Rattle.field.proofs.inverse.Goals as goal

pub returns-in_default : goal.returns-in_default
unfolding inverse_of
returns-in_default c = refused _ _ c.check_units-x.ensures c.in_default.is c.number.ensures

pub inverse_power-requires : goal.inverse_power-requires
inverse_power-requires c = accepted_width _ _ (verdict_accepted _ c.check_units-x.ensures c.in-Accepted.is)

pub returns : goal.returns
unfolding inverse_of
returns c = allowed _ (verdict_accepted _ c.check_units-x.ensures c.in-Accepted.is) c.inverse_power.ensures
