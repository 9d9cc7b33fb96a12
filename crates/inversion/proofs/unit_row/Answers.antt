-- The row of zeros, with its one. Assumes nothing.
use mathlib.Core.Path.{ap, ◌∙◌}
use mathlib.Core.List.{List}
use Prim.Native.Nat.{ℕ}
use native.Mathlib.Omega.{arith}
use Rattle.bits.specs.Bits.{set_bit}
use Rattle.bits.proofs.PutBits.{written_zeros}
use Rattle.inversion.specs.Inversion.{unit_bytes}
use Rattle.inversion.proofs.unit_row.Goals as goal

pub returns : goal.returns
unfolding unit_bytes
returns c =
    let a = c.args in
    c.set_bit.ensures
    ∙ ap (λ (s : List ℕ). set_bit s a.i 1)
    (c.clear_row.ensures ∙ written_zeros a.rows a.row.now (omega arith))
