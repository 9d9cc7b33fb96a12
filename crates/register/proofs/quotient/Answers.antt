-- The inverse is not refused, since c_0 is a unit. Assumes nothing.
use Rattle.field.proofs.Units.{inverse_given, inverse_not_refused}
use Rattle.register.proofs.Across.{divided_by}
use Rattle.register.proofs.quotient.Goals as goal

pub returns-in_default : goal.returns-in_default
returns-in_default c = absurd (inverse_not_refused _ _ c.requires.0 c.requires.3 c.inverse-i.ensures c.in_default.is)

pub returns : goal.returns
returns c =
    let a = c.args in
    divided_by a.m a.c (inverse_given _ _ c.inverse-i.ensures c.in-Value.is) c.scale.ensures
