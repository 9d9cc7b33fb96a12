-- `euclid::square::monic` meets its contract. Assumes nothing.
use mathlib.Core.Path.{ap, ◌∙◌}
use mathlib.Core.List.{List}
use Prim.Native.Nat.{ℕ}
use native.Mathlib.Omega.{arith}
use lib.ListN.{length, set}
use Rattle.euclid.proofs.Coefficients.{load_lead}
use Rattle.euclid.proofs.square.monic.Goals as goal

pub returns : goal.returns
returns c =
    let g = c.args.g.now in
    ap (λ (l : List ℕ). set l (length g) 1) c.load-a.ensures ∙ load_lead g (omega arith)
