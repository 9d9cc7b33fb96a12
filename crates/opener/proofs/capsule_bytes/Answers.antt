-- The bytes of m·t bits. Assumes nothing.
use Rattle.key.specs.Kept.{kept}
use Rattle.code.specs.Publish.{capsule_bits}
use Rattle.slot.specs.Replies.{view}
use Rattle.opener.proofs.capsule_bytes.Goals as goal

pub returns : goal.returns
unfolding view kept capsule_bits
returns c = c.capsule_bytes.ensures
