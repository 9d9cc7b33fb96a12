-- The check of the file, then the shape that it says. Assumes nothing.
use Rattle.field.proofs.Verdicts.{verdict_accepted, verdict_taken}
use Rattle.key_file.proofs.Files.{file_refused, file_sizes}
use Rattle.key_file.proofs.shape.Goals as goal

pub returns-in_default : goal.returns-in_default
returns-in_default c =
    let v = c.check_file-x.ensures in
    let t = verdict_taken _ v c.in_default.is c.number.ensures in
    file_refused _ t.0 t.1

pub returns : goal.returns
returns c = file_sizes _ c.sizes.ensures (verdict_accepted _ c.check_file-x.ensures c.in-Accepted.is)
