-- `field::multiply` meets its contract. Assumes nothing.
use Rattle.field.specs.Answers.{multiply_of}
use Rattle.field.proofs.Verdicts.{verdict_accepted}
use Rattle.field.proofs.Guards.{refused, allowed}
use Rattle.field.proofs.CallGuards.{accepted}
use Rattle.field.proofs.multiply.Goals as goal

pub returns-in_default : goal.returns-in_default
unfolding multiply_of
returns-in_default c = refused _ _ c.check_pair-x.ensures c.in_default.is c.number.ensures

pub overflow_cast-a : goal.overflow_cast-a
overflow_cast-a c = record { fits = (accepted _ _ _ (verdict_accepted _ c.check_pair-x.ensures c.in-Accepted.is)).0 }

pub overflow_cast-b : goal.overflow_cast-b
overflow_cast-b c =
    let both = accepted _ _ _ (verdict_accepted _ c.check_pair-x.ensures c.in-Accepted.is) in
    record { fits = (accepted _ _ _ both.1).0 }

pub returns : goal.returns
unfolding multiply_of
returns c = allowed _ (verdict_accepted _ c.check_pair-x.ensures c.in-Accepted.is) c.times.ensures
