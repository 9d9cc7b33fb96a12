-- `euclid::common::start` meets its contract. Assumes nothing.
use mathlib.Core.Path.{ap₂, ◌∙◌}
use mathlib.Core.List.{List}
use Prim.Native.Nat.{ℕ}
use Rattle.bits.specs.Bits.{padded}
use Rattle.euclid.specs.Euclid.{started}
use Rattle.euclid.proofs.common.start.Goals as goal

pub returns : goal.returns
unfolding started
returns c =
    let a = c.args.a.now in
    let b = c.args.b.now in
    ap₂ (λ (x y : List ℕ). record { a = x; b = y; da = c.size.result; db = c.size-2.result }) c.load.ensures c.load-2.ensures
    ∙ ap₂ (λ (i j : ℕ). record { a = padded 129 a; b = padded 129 b; da = i; db = j }) c.size.ensures c.size-2.ensures
