-- `field::add` meets its contract. Assumes nothing.
use mathlib.Core.Path.{refl}
use Rattle.bits.specs.Xor.{◌⊕◌}
use Rattle.field.specs.Answers.{add_of}
use Rattle.field.proofs.Verdicts.{verdict_accepted}
use Rattle.field.proofs.Guards.{refused, allowed}
use Rattle.field.proofs.CallGuards.{accepted}
use Rattle.field.proofs.add.Goals as goal

pub returns-in_default : goal.returns-in_default
unfolding add_of
returns-in_default c = refused _ _ c.check_pair-x.ensures c.in_default.is c.number.ensures

pub overflow_cast-result : goal.overflow_cast-result
overflow_cast-result c = record { fits = (accepted _ _ _ (verdict_accepted _ c.check_pair-x.ensures c.in-Accepted.is)).0 }

pub overflow_cast-result-2 : goal.overflow_cast-result-2
overflow_cast-result-2 c =
    let both = accepted _ _ _ (verdict_accepted _ c.check_pair-x.ensures c.in-Accepted.is) in
    record { fits = (accepted _ _ _ both.1).0 }

pub returns : goal.returns
unfolding add_of ◌⊕◌
returns c = allowed _ (verdict_accepted _ c.check_pair-x.ensures c.in-Accepted.is) refl
