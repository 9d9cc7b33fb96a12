-- `key_file::sizes` meets its contract. Assumes nothing.
use Rattle.key_file.proofs.Files.{sizes_said}
use Rattle.key_file.proofs.sizes.Goals as goal

pub returns : goal.returns
returns c = sizes_said _ c.byte.ensures c.pair-n.ensures c.pair.ensures
