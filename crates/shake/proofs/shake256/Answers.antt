-- What the lanes give is SHAKE256 (`shake_same`). Assumes nothing.
use mathlib.Core.Path.{ap, ◌∙◌}
use Prim.Native.Nat.{ℕ}
use lib.ListN.{length}
use Rattle.keccak.specs.Lanes.{squeezed}
use Rattle.keccak.proofs.Sponge.{shake_same}
use Rattle.shake.proofs.shake256.Goals as goal

pub returns : goal.returns
returns c =
    let a = c.args in
    let n : ℕ = length a.out.now in
    c.squeeze.ensures ∙ ap (squeezed n) c.absorb.ensures ∙ shake_same n a.input.now
