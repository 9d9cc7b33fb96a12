-- `power_sums::merging::weave` meets its contract. Assumes nothing.
use mathlib.Core.Path.{refl, ◌∙◌}
use native.Mathlib.Omega.{arith}
use lib.ListN.{take, drop, length-set}
use Rattle.power_sums.proofs.Loops.{weave_next, weave_all}
use Rattle.power_sums.specs.Sums.{zip}
use Rattle.bits.proofs.Padded.{over-start}
use Rattle.power_sums.proofs.merging.weave.Goals as goal

pub loop-i-init : goal.loop-i-init
loop-i-init c = let a = c.args in (omega arith, refl, over-start (zip (take a.h a.t.now) (drop a.h a.t.now)) a.c.now)

pub bounds-c-i-in-loop-i : goal.bounds-c-i-in-loop-i
bounds-c-i-in-loop-i c = simp length-set (omega arith)

pub loop-i-preserved : goal.loop-i-preserved
loop-i-preserved c =
    let l = c.loop-i in
    let a = c.args in
    (omega arith, simp length-set (omega arith), weave_next a.t.now a.c.now a.h c.requires.0 c.requires.1 l.i l.c l.invariant.2 (omega arith))

pub returns : goal.returns
returns c = let a = c.args in c.loop-i.invariant.2 ∙ weave_all a.t.now a.c.now a.h c.requires.0 c.requires.1 c.loop-i.i (omega arith)
