-- The loop's invariant: the first i coefficients, and zeros behind them. Assumes nothing.
use mathlib.Core.Path.{ap, ◌∙◌}
use mathlib.Core.List.{List}
use Prim.Native.Nat.{ℕ}
use native.Mathlib.Omega.{arith}
use lib.ListN.{get_or, set}
use lib.Seq.{take_all}
use Rattle.bits.specs.Bits.{padded}
use Rattle.bits.proofs.Padded.{padded-start, padded-next}
use Rattle.euclid.proofs.common.load.Goals as goal

pub loop-i-init : goal.loop-i-init
loop-i-init c = (omega arith, padded-start 129 c.args.p.now)

pub loop-i-preserved : goal.loop-i-preserved
loop-i-preserved c =
    let l = c.loop-i in
    let p = c.args.p.now in
    (omega arith, ap (λ (a : List ℕ). set a l.i (get_or p l.i 0)) l.invariant.1 ∙ padded-next 129 p l.i (omega arith) (omega arith))

pub returns : goal.returns
returns c =
    let l = c.loop-i in
    let p = c.args.p.now in
    l.invariant.1 ∙ ap (padded 129) (take_all l.i p (omega arith))
