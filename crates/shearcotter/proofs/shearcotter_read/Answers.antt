-- The station's reply, with the caller's own station. Assumes nothing.
use Rattle.ledger.specs.Questions.{read_word}
use Rattle.shearcotter.proofs.Own.{own_left}
use Rattle.shearcotter.proofs.shearcotter_read.Goals as goal

pub returns : goal.returns
returns c =
    let a = c.args in
    record { reply = own_left a.own a.name (read_word a.word.now a.out.now) c.read-found.ensures.reply; output = c.read-found.ensures.output }
