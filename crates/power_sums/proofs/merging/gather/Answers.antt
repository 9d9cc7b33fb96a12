-- `power_sums::merging::gather` meets its contract. Assumes nothing.
use mathlib.Core.Path.{refl, ap, ◌∙◌}
use Prim.Native.Nat.{◌+◌}
use native.Mathlib.Omega.{arith}
use lib.ListN.{length}
use Rattle.power_sums.proofs.Loops.{collected_to, collected-next, collected_all, length_collected_to}
use Rattle.power_sums.proofs.merging.gather.Goals as goal

pub loop-i-init : goal.loop-i-init
unfolding collected_to
loop-i-init c = (omega arith, refl, refl)

pub loop-i-preserved : goal.loop-i-preserved
loop-i-preserved c =
    let l = c.loop-i in
    let a = c.args in
    let z = collected-next l.i a.c.now l.c _ l.invariant.2 (omega arith) c.add_up.ensures in
    (omega arith, ap length z ∙ length_collected_to (l.i + 1) a.c.now, z)

pub returns : goal.returns
returns c =
    let l = c.loop-i in
    let a = c.args in
    l.invariant.2 ∙ collected_all l.i a.c.now (omega arith)
