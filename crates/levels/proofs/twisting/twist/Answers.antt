-- `levels::twisting::twist` meets its contract. Assumes nothing.
use native.Mathlib.Omega.{arith}
use Rattle.levels.proofs.Twists.{twist_form, twist_none}
use Rattle.levels.proofs.twisting.twist.Goals as goal

pub returns-then-c-eq0 : goal.returns-then-c-eq0
returns-then-c-eq0 c = let a = c.args in twist_none a.m a.p.now a.c.now c.if-c-eq0.true

pub returns : goal.returns
returns c =
    let a = c.args in
    twist_form a.m a.p.now a.c.now _ (omega (arith, c.if-c-eq0.false)) c.horner_each.ensures
