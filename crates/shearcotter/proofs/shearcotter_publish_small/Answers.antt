-- The station's reply, with the caller's own keys. Assumes nothing.
use Rattle.ledger.specs.Publishing.{small}
use Rattle.shearcotter.proofs.Own.{own_keys}
use Rattle.shearcotter.proofs.shearcotter_publish_small.Goals as goal

pub returns : goal.returns
returns c =
    let a = c.args in
    record {
      reply = own_keys a.own a.name (small a.out.now a.work.now) c.publish_small-made.ensures.reply;
      output = c.publish_small-made.ensures.output;
      workspace = c.publish_small-made.ensures.workspace;
    }
