-- The station's reply, with the caller's own station. Assumes nothing.
use Rattle.ledger.specs.Questions.{open_capsule}
use Rattle.shearcotter.proofs.Own.{own_left}
use Rattle.shearcotter.proofs.shearcotter_open.Goals as goal

pub returns : goal.returns
returns c =
    let a = c.args in
    record { reply = own_left a.own a.name (open_capsule a.capsule.now a.out.now) c.open-opened.ensures.reply; output = c.open-opened.ensures.output }
