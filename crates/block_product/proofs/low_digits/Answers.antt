-- A mask. Assumes nothing.
use native.Mathlib.Omega.{arith}
use lib.Pow.{pow_pos}
use Rattle.block_product.proofs.Digits.{one_shifted, masked}
use Rattle.block_product.proofs.low_digits.Goals as goal

pub overflow_sub-mask : goal.overflow_sub-mask
overflow_sub-mask c = let a = c.args in omega (arith, one_shifted a.c (omega arith), pow_pos a.c)

pub returns : goal.returns
returns c = let a = c.args in masked a.c (omega arith) a.v
