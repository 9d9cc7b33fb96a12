-- `transform::gathering::worth` meets its contract. Assumes nothing.
use mathlib.Core.Path.{sym}
use mathlib.Core.Bool.{true≢false}
use native.Mathlib.Nat.{mul-le-mul_right}
use native.Mathlib.Omega.{arith}
use Rattle.field.proofs.Table.{modulus_some}
use Rattle.transform.proofs.gathering.worth.Goals as goal

pub returns-then-modulus-eq0 : goal.returns-then-modulus-eq0
returns-then-modulus-eq0 c = λ e. absurd (true≢false (sym e))

pub returns-then-m-lt9 : goal.returns-then-m-lt9
returns-then-m-lt9 c = λ e. absurd (true≢false (sym e))

pub returns-then-t-gt511 : goal.returns-then-t-gt511
returns-then-t-gt511 c = λ e. absurd (true≢false (sym e))

pub overflow_mul-result : goal.overflow_mul-result
overflow_mul-result c = omega (arith, c.if-t-gt511.false, mul-le-mul_right c.args.t c.requires)

pub returns : goal.returns
returns c = λ _. (modulus_some _ c.modulus.ensures c.if-modulus-eq0.false, omega (arith, c.if-m-lt9.false), omega (arith, c.if-t-gt511.false))
