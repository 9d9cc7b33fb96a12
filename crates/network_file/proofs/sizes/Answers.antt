-- `network_file::sizes` meets its contract. Assumes nothing.
use Rattle.network_file.proofs.Files.{sizes_said}
use Rattle.network_file.proofs.sizes.Goals as goal

pub returns : goal.returns
returns c = sizes_said _ c.byte.ensures c.pair.ensures c.pair-2.ensures
