-- The station's reply, with the caller's own station. Assumes nothing.
use Rattle.ledger.specs.Questions.{derive_session_key}
use Rattle.shearcotter.proofs.Own.{own_derived}
use Rattle.shearcotter.proofs.shearcotter_session.Goals as goal

pub returns : goal.returns
returns c =
    let a = c.args in
    own_derived a.own a.name (derive_session_key a.capsule.now a.secret.now) c.session-derived.ensures
