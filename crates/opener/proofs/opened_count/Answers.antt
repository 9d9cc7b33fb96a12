-- One report, and its count of 0. Assumes nothing.
use mathlib.Core.Path.{ap, ◌∙◌}
use lib.ListN.{get_or}
use Rattle.recipients.specs.Names.{byte_of}
use Rattle.station.specs.declared.Reported.{Reported}
use Rattle.opener.proofs.Total.{opened_counted}
use Rattle.opener.proofs.opened_count.Goals as goal

pub returns : goal.returns
unfolding byte_of
returns c =
    ap (λ (r : Reported). get_or r.counts 0 0) c.report-reported.ensures.reply
    ∙ opened_counted c.args.station c.args.input.now 65536 c.requires.0 c.requires.1
