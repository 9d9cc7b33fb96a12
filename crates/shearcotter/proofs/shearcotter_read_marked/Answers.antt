-- The station's reply, with the caller's own station. Assumes nothing.
use Rattle.ledger.specs.Questions.{read_marked}
use Rattle.shearcotter.proofs.Own.{own_left}
use Rattle.shearcotter.proofs.shearcotter_read_marked.Goals as goal

pub returns : goal.returns
returns c =
    let a = c.args in
    record {
      reply = own_left a.own a.name (read_marked a.word.now a.marks.now a.out.now) c.read_marked-corrected.ensures.reply;
      output = c.read_marked-corrected.ensures.output;
    }
