-- `euclid::derivative_at` meets its contract. Assumes nothing.
use mathlib.Core.Path.{sym}
use Rattle.euclid.proofs.Coefficients.{derivative_even, derivative_odd, derivative-last}
use Rattle.euclid.proofs.derivative_at.Goals as goal

pub returns-then-k-ne0 : goal.returns-then-k-ne0
returns-then-k-ne0 c = sym (derivative_odd _ _ c.if-k-ne0.true)

pub returns-then-next-p : goal.returns-then-next-p
returns-then-next-p c = sym (derivative_even _ _ c.if-k-ne0.false)

pub returns-else-next-p : goal.returns-else-next-p
returns-else-next-p c = sym (derivative-last _ _ c.if-next-p.false)
