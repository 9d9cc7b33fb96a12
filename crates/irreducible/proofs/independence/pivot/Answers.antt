-- The loop's invariant: the first i are 0. Assumes nothing.
use native.Mathlib.Omega.{arith}
use borrow.Author.Count.{below_more}
use Rattle.irreducible.proofs.independence.pivot.Goals as goal

pub loop-i-init : goal.loop-i-init
loop-i-init c = (omega arith, λ k h. absurd (omega arith))

pub returns-then-r-i-ne0 : goal.returns-then-r-i-ne0
returns-then-r-i-ne0 c = let l = c.loop-i in record { bound = omega arith; zeros = l.invariant.1; found = λ h. c.if-r-i-ne0.true }

pub loop-i-preserved : goal.loop-i-preserved
loop-i-preserved c = (omega arith, below_more _ _ c.loop-i.invariant.1 c.if-r-i-ne0.false)

pub returns : goal.returns
returns c = let l = c.loop-i in record { bound = omega arith; zeros = l.invariant.1; found = λ h. absurd (omega arith) }
