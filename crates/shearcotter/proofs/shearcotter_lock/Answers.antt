-- What lock answers, taken apart: its number, or 0. Assumes nothing.
use mathlib.Core.Path.{sym, ◌∙◌}
use Rattle.field.proofs.Verdicts.{verdict_accepted, verdict_number}
use Rattle.shearcotter.proofs.shearcotter_lock.Goals as goal

pub returns-in_default : goal.returns-in_default
returns-in_default c =
    let l = c.lock-x in
    record { number = c.number.ensures ∙ verdict_number _ l.ensures.value; output = l.ensures.out_after }

pub returns : goal.returns
returns c =
    let l = c.lock-x in
    record { number = sym (verdict_accepted _ l.ensures.value c.in-Accepted.is); output = l.ensures.out_after }
