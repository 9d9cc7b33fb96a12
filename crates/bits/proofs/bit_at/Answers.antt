-- Past the last byte both sides are 0; before it, the and with 1 is the digit. Assumes nothing.
use mathlib.Core.Path.{sym}
use native.Mathlib.Omega.{arith}
use lib.Bits.{and_mask}
use Rattle.bits.specs.Bits.{bit_at}
use Rattle.bits.proofs.Bits.{bit_past}
use Rattle.bits.proofs.bit_at.Goals as goal

pub returns-then-s-at : goal.returns-then-s-at
returns-then-s-at c = sym (bit_past c.args.s.now c.args.i (omega arith))

pub returns : goal.returns
unfolding bit_at
returns c = and_mask _ 1
