-- `network_file::shape` meets its contract. Assumes nothing.
use Rattle.network_file.proofs.shape.Goals as goal

pub returns : goal.returns
returns c = c.read_key.ensures.answer
