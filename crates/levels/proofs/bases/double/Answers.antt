-- `levels::bases::double` meets its contract. Assumes nothing.
use mathlib.Core.Path.{refl, ◌∙◌}
use native.Mathlib.Omega.{arith}
use lib.ListN.{length-set}
use Rattle.levels.proofs.Loops.{doubled-start, doubled-next, doubled_all}
use Rattle.bits.specs.Xor.{◌⊕◌}
use Rattle.levels.proofs.bases.double.Goals as goal

pub loop-i-init : goal.loop-i-init
loop-i-init c = let a = c.args in (omega arith, refl, doubled-start a.w a.x a.g.now)

pub loop-i-preserved : goal.loop-i-preserved
unfolding ◌⊕◌
loop-i-preserved c =
    let l = c.loop-i in
    let a = c.args in
    (omega arith, simp length-set (omega arith), doubled-next a.w a.x a.g.now (omega arith) l.i l.g l.invariant.2 (omega arith))

pub returns : goal.returns
returns c = let a = c.args in c.loop-i.invariant.2 ∙ doubled_all a.w a.x a.g.now (omega arith) c.loop-i.i (omega arith)
