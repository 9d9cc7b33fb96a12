-- Assumes nothing.
use mathlib.Core.Path.{ap, ◌∙◌}
use mathlib.Core.List.{List}
use Prim.Native.Nat.{ℕ, ◌+◌, ◌/◌}
use lib.Seq.{sets}
use Rattle.key.specs.Keys.{two_bytes}
use Rattle.network_writing.proofs.Head.{sets_four}
use Rattle.network_writing.proofs.put_four.Goals as goal

pub returns : goal.returns
returns c =
    let a = c.args in
    c.put_pair-2.ensures
    ∙ ap (λ (o : List ℕ). sets o (a.at + 2) (two_bytes (a.x / 65536))) c.put_pair.ensures
    ∙ sets_four a.out.now a.at a.x
