-- A row of zeros is bytes that are 0. Assumes nothing.
use mathlib.Core.List.{[]}
use mathlib.Core.Path.{sym, ap, ◌∙◌}
use Prim.Native.Nat.{ℕ}
use native.Mathlib.Omega.{arith}
use lib.ListN.{replicate}
use Rattle.bits.specs.Bits.{over}
use Rattle.bits.proofs.PutBits.{written_none, written_zeros}
use Rattle.packed.proofs.clear_row.Goals as goal

pub returns-then-out-size : goal.returns-then-out-size
returns-then-out-size c = let a = c.args in sym (written_none [] 0 a.w a.out.now (omega arith))

pub returns : goal.returns
returns c =
    let a = c.args in
    c.clear_bytes.ensures
    ∙ ap (λ (n : ℕ). over (replicate n 0) a.out.now) c.bytes_for-size.ensures
    ∙ sym (written_zeros a.w a.out.now (omega arith))
