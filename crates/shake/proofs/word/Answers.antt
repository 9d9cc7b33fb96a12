-- Two fours, one above the other. Assumes nothing.
use mathlib.Core.Path.{ap₂, ◌∙◌}
use Prim.Native.Nat.{ℕ, ◌*◌, ◌%◌, ◌^◌}
use native.Mathlib.Omega.{arith}
use lib.Bits.{bit_or}
use Rattle.keccak.proofs.Words.{word_join}
use Rattle.shake.proofs.word.Goals as goal

pub returns : goal.returns
returns c =
    let a = c.args in
    ap₂ (λ (x y : ℕ). bit_or x (y * 2 ^ 32 % 2 ^ 64)) c.four.ensures c.four-2.ensures
    ∙ word_join 4 4 a.s.now a.at (omega arith)
