-- The length divided by a capsule's bytes, rounded up. Assumes nothing.
use mathlib.Core.Path.{refl}
use Rattle.code.specs.Publish.{capsule_bits}
use Rattle.records.proofs.Values.{bytes_some, capsules_counted}
use Rattle.opener.specs.Prepared.{slot_a}
use Rattle.opener.proofs.Shape.{four}
use Rattle.opener.proofs.Capsules.{capsule_bits_lem}
use Rattle.opener.proofs.capsule_count.Goals as goal

pub returns : goal.returns
returns c =
    let k = (slot_a c.args.station).key in
    capsules_counted k c.args.input.now (bytes_some {bits = capsule_bits k} refl (capsule_bits_lem (four _ c.requires.0)).0) c.capsule_bytes.ensures c.capsule_count.ensures
