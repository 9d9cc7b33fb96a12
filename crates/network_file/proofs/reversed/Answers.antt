-- The loop's invariant: r has the i lowest digits of x, and y the others. Assumes nothing.
use mathlib.Core.Path.{sym, ◌∙◌}
use native.Mathlib.Omega.{arith}
use lib.Pow.{pow_mono}
use Rattle.network_file.proofs.Digits.{reversed-start, reversed-next, reversed_end, reversed_small, reversed-first}
use Rattle.network_file.proofs.reversed.Goals as goal

pub loop-i-init : goal.loop-i-init
loop-i-init c = (omega arith, omega arith, reversed-start 13 c.args.x)

pub overflow_mul-r : goal.overflow_mul-r
overflow_mul-r c = let l = c.loop-i in let p = pow_mono {i = l.i} {j = 12} (omega arith) in omega arith

pub overflow_add-r : goal.overflow_add-r
overflow_add-r c = let l = c.loop-i in let p = pow_mono {i = l.i} {j = 12} (omega arith) in omega arith

pub loop-i-preserved : goal.loop-i-preserved
loop-i-preserved c =
    let l = c.loop-i in
    (omega arith, reversed_small 13 l.i l.r l.y l.invariant.1, reversed-next 13 l.i l.r l.y (omega arith) ∙ l.invariant.2)

pub returns : goal.returns
returns c =
    let l = c.loop-i in
    let a = c.args in
    reversed-first a.m a.x l.r (omega arith) (sym (reversed_end 13 l.i l.r l.y (omega arith)) ∙ l.invariant.2)
