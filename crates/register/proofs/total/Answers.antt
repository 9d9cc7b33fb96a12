-- The loop's invariant: d, with the places from i to l, is the whole sum. Assumes nothing.
use mathlib.Core.Path.{sym, ◌∙◌}
use native.Mathlib.Omega.{arith}
use Rattle.bits.specs.Xor.{◌⊕◌}
use Rattle.poly.proofs.Steps.{rest_start, rest_step, rest_none}
use Rattle.register.proofs.total.Goals as goal

pub loop-i-init : goal.loop-i-init
loop-i-init c = (omega arith, rest_start _ _ _)

pub loop-i-preserved : goal.loop-i-preserved
unfolding ◌⊕◌
loop-i-preserved c =
    let l = c.loop-i in
    let a = c.args in (omega arith, rest_step a.p.now a.l l.d l.i (omega arith) ∙ l.invariant.1)

pub returns : goal.returns
returns c = let a = c.args in sym (rest_none a.p.now a.l _ _ (omega arith)) ∙ c.loop-i.invariant.1
