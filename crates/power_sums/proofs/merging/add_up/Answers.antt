-- `power_sums::merging::add_up` meets its contract. Assumes nothing.
use mathlib.Core.Path.{refl, ◌∙◌}
use native.Mathlib.Omega.{arith}
use lib.ListN.{length-set}
use Rattle.power_sums.proofs.Loops.{added_to, added_next, added_all}
use Rattle.bits.specs.Xor.{◌⊕◌}
use Rattle.power_sums.proofs.merging.add_up.Goals as goal

pub loop-k-init : goal.loop-k-init
unfolding added_to
loop-k-init c = (omega arith, refl, refl)

pub loop-k-preserved : goal.loop-k-preserved
unfolding ◌⊕◌
loop-k-preserved c =
    let l = c.loop-k in
    let a = c.args in
    (omega arith, simp length-set (omega arith), added_next l.k a.c.now l.c l.invariant.2 (omega arith))

pub returns : goal.returns
returns c = c.loop-k.invariant.2 ∙ added_all c.loop-k.k c.args.c.now (omega arith)
