-- `transform::gathering::place` meets its contract. Assumes nothing.
use Prim.Native.Nat.{◌≤◌}
use native.Mathlib.Nat.{mod-lt}
use native.Mathlib.Omega.{arith}
use lib.Pow.{pow_pos, pow_mono}
use Rattle.field.proofs.Machine.{one_shl, low-digits}
use Rattle.field.proofs.Table.{width_narrow}
use Rattle.transform.proofs.gathering.place.Goals as goal

pub overflow_shl-mask : goal.overflow_shl-mask
overflow_shl-mask c = omega (arith, width_narrow c.args.m c.requires)

pub overflow_sub-mask : goal.overflow_sub-mask
overflow_sub-mask c = rw (one_shl c.args.m (width_narrow c.args.m c.requires)) (pow_pos c.args.m)

pub overflow_cast-result : goal.overflow_cast-result
overflow_cast-result c =
    let n = width_narrow c.args.m c.requires in
    let d : c.args.m ≤ 13 = omega arith in
    rw (low-digits c.args.m n c.args.a) (omega (arith, mod-lt c.args.a (pow_pos c.args.m), pow_mono d))

pub returns : goal.returns
returns c = low-digits c.args.m (width_narrow c.args.m c.requires) c.args.a
