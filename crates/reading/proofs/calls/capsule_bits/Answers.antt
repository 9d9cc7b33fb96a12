-- m·t fits. Assumes nothing.
use Prim.Native.Nat.{◌≤◌}
use native.Mathlib.Nat.{mul-le-mul}
use native.Mathlib.Omega.{arith}
use Rattle.reading.proofs.calls.capsule_bits.Goals as goal

pub overflow_mul-result : goal.overflow_mul-result
overflow_mul-result c =
    let h : c.args.m ≤ 255 = omega arith in
    let l : c.args.t ≤ 65535 = omega arith in
    omega (arith, mul-le-mul h l)
