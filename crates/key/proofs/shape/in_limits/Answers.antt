-- The limits' tests in order. Assumes nothing.
use mathlib.Core.Path.{ap, ◌∙◌}
use Prim.Native.Nat.{◌≤◌}
use native.Mathlib.Nat.{mul-le-mul_left}
use native.Mathlib.Omega.{arith}
use lib.Dec.{leb}
use Rattle.field.proofs.Machine.{one_shl_digits}
use Rattle.key.proofs.Limits.{t_small, t_large, n_small, n_decides, n_narrow}
use Rattle.key.proofs.shape.in_limits.Goals as goal

pub returns-then-t-lt1 : goal.returns-then-t-lt1
returns-then-t-lt1 c = t_small _ _ _ (omega arith)

pub returns-then-t-gt-MOST_ERRORS : goal.returns-then-t-gt-MOST_ERRORS
returns-then-t-gt-MOST_ERRORS c = t_large _ _ _ (omega arith) (omega arith)

pub overflow_mul-m : goal.overflow_mul-m
overflow_mul-m c =
    let a = c.args in
    let h : a.t ≤ 128 = omega arith in
    omega (arith, mul-le-mul_left a.m h)

pub returns-then-n-m : goal.returns-then-n-m
returns-then-n-m c = n_small _ _ _ (omega arith) (omega arith) (omega arith)

pub returns-then-m-ge16 : goal.returns-then-m-ge16
returns-then-m-ge16 c = n_narrow _ _ _ (omega arith) (omega arith) (omega arith) (omega arith) (omega arith)

pub returns : goal.returns
returns c =
    let a = c.args in
    ap (leb a.n) (one_shl_digits a.m 32 (omega arith)) ∙ n_decides _ _ _ (omega arith) (omega arith) (omega arith)
