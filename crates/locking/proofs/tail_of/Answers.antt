-- There is room for a row of w bits. Assumes nothing.
use mathlib.Core.Path.{◌∙◌}
use Prim.Native.Nat.{ℕ}
use lib.ListN.{replicate, length-replicate}
use Rattle.bits.proofs.Parts.{row_size}
use Rattle.bits.proofs.PutBits.{written_row}
use Rattle.locking.proofs.tail_of.Goals as goal

pub returns : goal.returns
returns c =
    let a = c.args in
    c.write_row.ensures
    ∙ written_row a.pattern.now a.rows a.w (replicate 1024 0) (rw (length-replicate {A = ℕ} 1024 0) (row_size a.w c.requires.1))
