-- The number of the switch, its setting, and the position with it. Assumes nothing.
use mathlib.Core.Path.{sym, subst}
use Prim.Native.Nat.{◌+◌, ◌<◌}
use native.Mathlib.Omega.{arith}
use lib.Pow.{pow_pos}
use Rattle.bits.specs.Bits.{bit_at}
use Rattle.bits.proofs.Bits.{bit_lt}
use Rattle.switching.proofs.Shifts.{one_shifted, switch_fits, source_of}
use Rattle.switching.proofs.source.Goals as goal

pub overflow_sub-low : goal.overflow_sub-low
overflow_sub-low c =
    let a = c.args in
    let e = one_shifted a.x a.k (omega arith) (omega arith) in
    let p = pow_pos a.k in omega arith

pub overflow_add-y : goal.overflow_add-y
overflow_add-y c = let a = c.args in let s = switch_fits a.x a.k (omega arith) (omega arith) in omega arith

pub overflow_add-base : goal.overflow_add-base
overflow_add-base c = let a = c.args in let s = switch_fits a.x a.k (omega arith) (omega arith) in omega arith

pub returns : goal.returns
returns c =
    let a = c.args in
    let e = c.bit_at-e.ensures in
    source_of a.x a.k (omega arith) (omega arith) (λ j. bit_at a.row.now (a.base + j)) _ e (subst (◌< 2) (sym e) (bit_lt _ _))
