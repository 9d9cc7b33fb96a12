-- The word, its marked bits cleared, then set. Assumes nothing.
use mathlib.Core.Path.{ap, ◌∙◌}
use mathlib.Core.List.{List}
use Prim.Native.Nat.{ℕ}
use Rattle.bits.specs.Bits.{xor_row}
use Rattle.marked_reading.specs.Parts.{cleared, filled_row}
use Rattle.marked_reading.proofs.rows.with_marked.Goals as goal

pub returns-then-one : goal.returns-then-one
unfolding filled_row
returns-then-one c =
    let a = c.args in
    let e = c.clear_marked.ensures ∙ ap (λ (r : List ℕ). cleared r a.marks.now) c.xor_row.ensures in
    rw c.if-one.true (c.xor_row-then-one.ensures ∙ ap (λ (r : List ℕ). xor_row r a.marks.now) e)

pub returns-else-one : goal.returns-else-one
unfolding filled_row
returns-else-one c =
    let a = c.args in
    let e = c.clear_marked.ensures ∙ ap (λ (r : List ℕ). cleared r a.marks.now) c.xor_row.ensures in
    rw c.if-one.false e
