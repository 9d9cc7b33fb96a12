-- The checks, what is found, then the key. Assumes nothing.
use mathlib.Core.Path.{◌∙◌}
use mathlib.Core.Bool.{not}
use Rattle.field.proofs.Verdicts.{verdict_accepted, verdict_taken}
use Rattle.key.specs.Kept.{kept, parts}
use Rattle.session_key.proofs.Checks.{sizes}
use Rattle.session_key.proofs.Derived.{decode_not_refused, found_key_lem, answer_refused, answer_derived}
use Rattle.session_key.proofs.session.Goals as goal

pub returns-in_default : goal.returns-in_default
returns-in_default c =
    let a = c.args in
    let k = parts a.m a.n a.t a.support.now a.g.now in
    let t = verdict_taken _ c.check_session-x.ensures c.in_default.is c.number.ensures in
    c.refuse.ensures ∙ answer_refused (not a.published) (kept k) a.capsule.now a.secret.now t.0 t.1

pub returns-in_default-y : goal.returns-in_default-y
returns-in_default-y c =
    let a = c.args in
    let k = parts a.m a.n a.t a.support.now a.g.now in
    let s = sizes (not a.published) (kept k) a.capsule.now a.secret.now (verdict_accepted _ c.check_session-x.ensures c.in-Accepted.is) in
    absurd (decode_not_refused k a.capsule.now a.secret.now s.accepted_key s.capsule_right c.decode-e.ensures c.in_default-y.is)

pub key_found-key-requires : goal.key_found-key-requires
unfolding kept
key_found-key-requires c =
    let a = c.args in
    let k = parts a.m a.n a.t a.support.now a.g.now in
    let s = sizes (not a.published) (kept k) a.capsule.now a.secret.now (verdict_accepted _ c.check_session-x.ensures c.in-Accepted.is) in
    record { n_bound = s.places; capsule_len_bound = s.capsule_bytes; secret_len_bound = s.secret_bytes }

pub returns : goal.returns
returns c =
    let a = c.args in
    let k = parts a.m a.n a.t a.support.now a.g.now in
    let z = verdict_accepted _ c.check_session-x.ensures c.in-Accepted.is in
    let s = sizes (not a.published) (kept k) a.capsule.now a.secret.now z in
    answer_derived (not a.published) (kept k) a.capsule.now a.secret.now z
    (c.key_found-key.ensures ∙ found_key_lem k a.capsule.now a.secret.now s.accepted_key s.capsule_right c.decode-e.ensures)
