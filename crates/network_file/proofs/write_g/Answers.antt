-- An accepted file's header is right. Assumes nothing.
use Rattle.field.proofs.Verdicts.{verdict_accepted, verdict_refused}
use Rattle.network_file.proofs.Files.{head_accepted}
use Rattle.network_file.proofs.write_g.Goals as goal

pub returns-in_default : goal.returns-in_default
returns-in_default c z = absurd (verdict_refused _ c.header-x.ensures c.in_default.is (head_accepted _ z))

pub put_g-requires : goal.put_g-requires
put_g-requires c = (verdict_accepted _ c.header-x.ensures c.in-Accepted.is, c.sizes.ensures)

pub returns : goal.returns
returns c z = c.put_g.ensures
