-- A byte is the number of its eight bits. Assumes nothing.
use native.Mathlib.Omega.{arith}
use Rattle.keccak.proofs.Words.{byte_word}
use Rattle.shake.proofs.byte.Goals as goal

pub overflow_cast-result : goal.overflow_cast-result
overflow_cast-result c = omega (arith, c.type_inv.s c.args.at)

pub returns : goal.returns
returns c =
    let a = c.args in
    byte_word a.s.now a.at (omega (arith, c.type_inv.s a.at))
