-- The station's reply, with the caller's own keys. Assumes nothing.
use Rattle.ledger.specs.Publishing.{systematic}
use Rattle.shearcotter.proofs.Own.{own_keys}
use Rattle.shearcotter.proofs.shearcotter_publish.Goals as goal

pub returns : goal.returns
returns c =
    let a = c.args in
    record {
      reply = own_keys a.own a.name (systematic a.out.now a.work.now) c.publish-published.ensures.reply;
      output = c.publish-published.ensures.output;
      workspace = c.publish-published.ensures.workspace;
    }
