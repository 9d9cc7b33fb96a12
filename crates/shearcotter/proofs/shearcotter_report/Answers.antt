-- The station's reply, with the caller's own station. Assumes nothing.
use Rattle.ledger.specs.Questions.{report}
use Rattle.shearcotter.proofs.Own.{own_reported}
use Rattle.shearcotter.proofs.shearcotter_report.Goals as goal

pub returns : goal.returns
returns c =
    let a = c.args in
    record {
      reply = own_reported a.own a.name (report a.capsules.now a.records.now) c.report-reported.ensures.reply;
      output = c.report-reported.ensures.output;
    }
