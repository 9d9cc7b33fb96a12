-- `field::below` meets its contract. The loop's invariant: the places from i on decide. Assumes nothing.
use mathlib.Core.Path.{refl, ◌∙◌}
use Prim.Native.Nat.{◌≤◌, ◌<◌}
use native.Mathlib.Omega.{arith}
use borrow.Author.Tests.{lt-ltb, le-ltb}
use lib.ListN.{get_or}
use Rattle.bits.proofs.Lists.{every-next, every_stop, every_end}
use Rattle.field.proofs.below.Goals as goal

pub loop-i-init : goal.loop-i-init
loop-i-init c = refl

pub returns-then-top-s : goal.returns-then-top-s
returns-then-top-s c =
    let l = c.loop-i in
    let a = c.args in
    let h : a.top ≤ get_or a.s.now l.i 0 = omega arith in
    every_stop _ a.s.now l.i (omega arith) (le-ltb _ _ h) ∙ l.invariant

pub loop-i-preserved : goal.loop-i-preserved
loop-i-preserved c =
    let l = c.loop-i in
    let a = c.args in
    let h : get_or a.s.now l.i 0 < a.top = omega arith in
    every-next _ a.s.now l.i (omega arith) (lt-ltb _ _ h) ∙ l.invariant

pub returns : goal.returns
returns c = let l = c.loop-i in every_end _ _ l.i c.loop-i-test.false ∙ l.invariant
