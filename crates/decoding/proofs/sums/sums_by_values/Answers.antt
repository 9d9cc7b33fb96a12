-- The inverses of g's values, squared, are the weights. Assumes nothing.
use mathlib.Core.Path.{ap, ◌∙◌}
use mathlib.Core.List.{map}
use Rattle.field.specs.Field.{inv}
use Rattle.field.proofs.Verdicts.{verdict_accepted}
use Rattle.field.proofs.Units.{inverses_given}
use Rattle.decoding.proofs.PowerSums.{points_sums}
use Rattle.decoding.proofs.Divisors.{sums_refused, sums_accepted}
use Rattle.decoding.proofs.sums.sums_by_values.Goals as goal

pub returns-in_default : goal.returns-in_default
returns-in_default c = sums_refused _ _ c.inverse_each-x.ensures.answer c.in_default.is

pub returns : goal.returns
returns c =
    let a = c.args in
    let z = verdict_accepted _ c.inverse_each-x.ensures.answer c.in-Accepted.is in
    let h = inverses_given a.m a.v.now z c.inverse_each-x.ensures.output ∙ ap (map (inv a.m)) c.requires.2 in
    sums_accepted _ _ c.inverse_each-x.ensures.answer c.in-Accepted.is
    (c.weighted_sums-s.ensures ∙ points_sums a.m c.requires.0 a.g.now a.points.now c.requires.1 _ _ h c.square_each.ensures)
