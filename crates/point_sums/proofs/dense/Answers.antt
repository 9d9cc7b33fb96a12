-- What it compares does not wrap; it holds only from the width 8 on. Assumes nothing.
use mathlib.Core.Bool.{false≢true}
use Prim.Native.Nat.{◌≤◌}
use native.Mathlib.Omega.{arith}
use native.Mathlib.Nat.{mul-le-mul}
use Rattle.field.proofs.Table.{width_narrow}
use Rattle.point_sums.proofs.dense.Goals as goal

pub returns-then-m-lt8 : goal.returns-then-m-lt8
returns-then-m-lt8 c = λ e. absurd (false≢true e)

pub overflow_shl-all : goal.overflow_shl-all
overflow_shl-all c = omega (arith, width_narrow c.args.m c.requires.0)

pub overflow_mul-result : goal.overflow_mul-result
overflow_mul-result c =
    let p = c.requires in
    let l : c.smaller.result ≤ 8192 = omega arith in
    omega (arith, mul-le-mul p.1 l)

pub returns : goal.returns
returns c = λ e. omega arith
