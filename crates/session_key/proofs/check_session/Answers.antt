-- The key and the mark, the capsule, then the secret. Assumes nothing.
use mathlib.Core.Path.{sym, ap, ◌∙◌}
use Rattle.field.specs.Verdicts.{verdict_of}
use Rattle.field.proofs.Verdicts.{refuses, verdict_accepted, verdict_refused}
use Rattle.key.specs.Kept.{kept}
use Rattle.session_key.proofs.Checks.{row_verdict, key_number_lem, row_number, secret_wrong, secret_right}
use Rattle.session_key.proofs.check_session.Goals as goal

pub returns-in_default : goal.returns-in_default
returns-in_default c =
    let r = c.check_published-x.ensures in
    r ∙ ap verdict_of (key_number_lem _ _ _ _ (verdict_refused _ r c.in_default.is))

pub returns-in_default-y : goal.returns-in_default-y
returns-in_default-y c =
    let z = verdict_accepted _ c.check_published-x.ensures c.in-Accepted.is in
    let e = row_verdict _ _ c.capsule_bits.ensures c.check_row-y.ensures in
    e ∙ ap verdict_of (row_number _ _ _ _ z (verdict_refused _ e c.in_default-y.is))

pub returns-then-not-well_formed : goal.returns-then-not-well_formed
unfolding kept
returns-then-not-well_formed c =
    let z = verdict_accepted _ c.check_published-x.ensures c.in-Accepted.is in
    let e = row_verdict _ _ c.capsule_bits.ensures c.check_row-y.ensures in
    refuses (secret_wrong _ _ _ _ z (verdict_accepted _ e c.in-Accepted-y.is) (sym c.well_formed-2.ensures ∙ c.if-not-well_formed.true))

pub returns : goal.returns
unfolding kept
returns c =
    let z = verdict_accepted _ c.check_published-x.ensures c.in-Accepted.is in
    let e = row_verdict _ _ c.capsule_bits.ensures c.check_row-y.ensures in
    let x = verdict_accepted _ e c.in-Accepted-y.is in
    e ∙ ap verdict_of (x ∙ secret_right _ _ _ _ z x (sym c.well_formed-2.ensures ∙ c.if-not-well_formed.false))
