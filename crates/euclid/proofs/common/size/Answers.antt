-- The loop's invariant: the first n coefficients decide. Assumes nothing.
use mathlib.Core.Path.{◌∙◌}
use native.Mathlib.Omega.{arith}
use Rattle.euclid.proofs.Size.{size_all, size_none, size_stop, size-next}
use Rattle.euclid.proofs.common.size.Goals as goal

pub loop-n-init : goal.loop-n-init
loop-n-init c = (omega arith, size_all _)

pub returns-then-p-n-ne0 : goal.returns-then-p-n-ne0
returns-then-p-n-ne0 c =
    let l = c.loop-n in
    let p = c.args.p.now in
    size_stop p l.n (omega arith) l.invariant.0 c.if-p-n-ne0.true ∙ l.invariant.1

pub loop-n-preserved : goal.loop-n-preserved
loop-n-preserved c =
    let l = c.loop-n in
    let p = c.args.p.now in
    (omega arith, size-next p l.n (omega arith) l.invariant.0 c.if-p-n-ne0.false ∙ l.invariant.1)

pub returns : goal.returns
returns c = let l = c.loop-n in size_none _ l.n (omega arith) ∙ l.invariant.1
