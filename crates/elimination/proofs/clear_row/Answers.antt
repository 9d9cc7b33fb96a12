-- Two cases: the row has a zero in the column, or t is added. Assumes nothing.
use mathlib.Core.Path.{◌∙◌}
use native.Mathlib.Omega.{arith}
use Rattle.bits.proofs.Bits.{bit_lt}
use Rattle.elimination.proofs.Clearing.{clear_none, clear_one}
use Rattle.elimination.proofs.clear_row.Goals as goal

pub returns-then-bit_at-eq0 : goal.returns-then-bit_at-eq0
returns-then-bit_at-eq0 c =
    let a = c.args in
    clear_none a.j a.t.now a.w.now (omega arith)

pub returns : goal.returns
returns c =
    let a = c.args in
    c.xor_row.ensures ∙ clear_one a.j a.t.now a.w.now (omega (arith, bit_lt a.w.now a.j))
