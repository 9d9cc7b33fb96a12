-- A shift and a mask. Assumes nothing.
use Prim.Native.Nat.{◌*◌, ◌/◌, ◌^◌}
use native.Mathlib.Omega.{arith}
use lib.Bits.{and_mask, mask_lt}
use Rattle.shake.proofs.lane_byte.Goals as goal

pub overflow_cast-result : goal.overflow_cast-result
overflow_cast-result c = omega (arith, mask_lt (c.args.v / 2 ^ (8 * c.args.i)) 8)

pub returns : goal.returns
returns c = and_mask (c.args.v / 2 ^ (8 * c.args.i)) 8
