-- `transform::halves::pair_up` meets its contract. Assumes nothing.
use mathlib.Core.Path.{refl, ◌∙◌}
use native.Mathlib.Omega.{arith}
use lib.ListN.{length-set}
use Rattle.transform.proofs.Loops.{paired_to, paired-next, paired_all}
use Rattle.bits.specs.Xor.{◌⊕◌}
use Rattle.transform.proofs.halves.pair_up.Goals as goal

pub loop-k-init : goal.loop-k-init
unfolding paired_to
loop-k-init c = (omega arith, refl, refl)

pub loop-k-preserved : goal.loop-k-preserved
unfolding ◌⊕◌
loop-k-preserved c =
    let l = c.loop-k in
    let a = c.args in
    (omega arith, simp length-set (omega arith), paired-next l.k a.c.now l.c l.invariant.2 (omega arith))

pub returns : goal.returns
returns c = c.loop-k.invariant.2 ∙ paired_all c.loop-k.k c.args.c.now (omega arith)
