-- The key and its g, then the mark. Assumes nothing.
use mathlib.Core.Path.{ap, ◌∙◌}
use mathlib.Core.Bool.{not}
use Rattle.std.proofs.lemmas.Bool.{not_from_true, not_from_false}
use Rattle.field.specs.Verdicts.{verdict_of}
use Rattle.field.proofs.Verdicts.{refuses, verdict_accepted, verdict_refused}
use Rattle.key.specs.Kept.{kept, parts}
use Rattle.reading.proofs.Refusals.{exchange_refused, key_unpublished, key_right}
use Rattle.reading.proofs.calls.check_published.Goals as goal

pub returns-in_default : goal.returns-in_default
returns-in_default c =
    let r = c.check_exchange-x.ensures in
    r ∙ ap verdict_of (exchange_refused _ _ (verdict_refused _ r c.in_default.is))

pub returns-then-not-published : goal.returns-then-not-published
returns-then-not-published c =
    let a = c.args in
    let k = parts a.m a.n a.t a.support.now a.g.now in
    refuses (key_unpublished (not a.published) (kept k) (verdict_accepted _ c.check_exchange-x.ensures c.in-Accepted.is) (not_from_false _ c.if-not-published.true))

pub returns : goal.returns
returns c =
    let a = c.args in
    let k = parts a.m a.n a.t a.support.now a.g.now in
    let r = c.check_exchange-x.ensures in
    let z = verdict_accepted _ r c.in-Accepted.is in
    r ∙ ap verdict_of (z ∙ key_right (not a.published) (kept k) z (not_from_true _ c.if-not-published.false))
