-- The loop's invariant: the first i numbers, and zeros behind them. Assumes nothing.
use mathlib.Core.Path.{ap, ◌∙◌}
use mathlib.Core.List.{List}
use Prim.Native.Nat.{ℕ}
use native.Mathlib.Omega.{arith}
use lib.ListN.{length, get_or, set}
use native.Mathlib.Nat.{min-le_left, min-le_right}
use Rattle.bits.specs.Bits.{padded}
use Rattle.bits.proofs.Padded.{padded-start, padded-next}
use Rattle.field_places.proofs.Blocks.{take_least}
use Rattle.field_places.proofs.block.Goals as goal

pub loop-i-init : goal.loop-i-init
loop-i-init c =
    let v = c.args.v.now in
    let e = c.smaller-n.ensures in
    (omega arith, omega (arith, e, min-le_left (length v) 512), omega (arith, e, min-le_right (length v) 512), padded-start 512 v)

pub loop-i-preserved : goal.loop-i-preserved
loop-i-preserved c =
    let l = c.loop-i in
    let v = c.args.v.now in
    (omega arith, l.invariant.1, l.invariant.2, ap (λ (a : List ℕ). set a l.i (get_or v l.i 0)) l.invariant.3 ∙ padded-next 512 v l.i (omega arith) (omega arith))

pub returns : goal.returns
returns c =
    let l = c.loop-i in
    let v = c.args.v.now in
    l.invariant.3 ∙ ap (padded 512) (take_least v 512 {i = l.i} (omega (arith, c.smaller-n.ensures)))
