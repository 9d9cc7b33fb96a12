-- `row_tables::put_table` meets its contract. Assumes nothing.
use mathlib.Core.Path.{refl, sym, ◌∙◌}
use mathlib.Core.Logic.{inl}
use Prim.Native.Nat.{◌+◌, ◌*◌}
use native.Mathlib.Omega.{arith}
use Rattle.row_tables.proofs.Making.{columns-kept, table_all}
use Rattle.row_tables.proofs.RowTable.{table_in_all, table_in_none}
use Rattle.row_tables.proofs.put_table.Goals as goal

pub returns-then-p-ne5120 : goal.returns-then-p-ne5120
returns-then-p-ne5120 c = sym (table_in_none _ _ _ c.if-p-ne5120.true)

pub returns : goal.returns
returns c =
    let f = c.fill-2.ensures in
    let a = c.args in
    table_all a.m a.a.now _ _ c.smaller-n.result c.smaller-n.ensures refl
    (columns-kept a.m a.a.now 0 40 _ _ f.columns.size c.fill.ensures.columns (λ q i h. f.by_index (128 * q + 0 + i) (inl (omega arith)))) f.columns
    ∙ sym (table_in_all a.m a.a.now a.p.now c.if-p-ne5120.false)
