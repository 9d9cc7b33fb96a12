-- The invariant: the newline of what is left, i places on, is that of the text. Assumes nothing.
use native.Mathlib.Omega.{arith}
use Rattle.vectors.proofs.Fields.{end_here, end_next, end_none}
use Rattle.vectors.proofs.line.end.Goals as goal

pub loop-i-init : goal.loop-i-init
loop-i-init c = (omega arith, omega arith)

pub returns-then-text-i-eq10 : goal.returns-then-text-i-eq10
returns-then-text-i-eq10 c =
    let l = c.loop-i in
    let e = end_here c.args.text.now l.i (omega arith) c.if-text-i-eq10.true in
    record { place = omega (arith, e, l.invariant.1); within = omega arith }

pub loop-i-preserved : goal.loop-i-preserved
loop-i-preserved c =
    let l = c.loop-i in
    let e = end_next c.args.text.now l.i (omega arith) c.if-text-i-eq10.false in
    (omega arith, omega (arith, e, l.invariant.1))

pub returns : goal.returns
returns c =
    let l = c.loop-i in
    let e = end_none c.args.text.now l.i c.loop-i-test.false in
    record { place = omega (arith, e, l.invariant.1); within = omega arith }
