-- The loop's invariant: r rows have their powers, and w is the next. Assumes nothing.
use mathlib.Core.Path.{◌≡◌, refl, sym, ap, ap₂, ◌∙◌, subst}
use mathlib.Core.List.{List}
use Prim.Native.Nat.{ℕ, ◌+◌, ◌-◌, ◌*◌, ◌≤◌}
use native.Mathlib.Nat.{zero-mul}
use native.Mathlib.Omega.{arith}
use borrow.Rule.Slice.PartMut.{put_mid}
use lib.ListN.{length, take, drop, length-replicate}
use lib.Seq.{length-take-le}
use Rattle.bits.proofs.Parts.{next_row}
use Rattle.row_tables.proofs.RowTable.{table_in_all}
use Rattle.irreducible.specs.Rows.{row_at}
use Rattle.irreducible.specs.Residues.{Powers}
use Rattle.irreducible.proofs.Rows.{room, length_row, part_row_lem}
use Rattle.irreducible.proofs.Products.{copied}
use Rattle.irreducible.proofs.PowerRows.{row_first, row_next, powers_none, powers_next}
use Rattle.irreducible.proofs.residues.powers.Goals as goal

pub first_power-w-requires : goal.first_power-w-requires
first_power-w-requires c = (c.requires.0, c.requires.1, c.requires.2)

pub slice_bounds-w-end : goal.slice_bounds-w-end
slice_bounds-w-end c = let z : length c.first_power-w.result ≡ 128 = c.first_power-w.ensures.size in omega arith

pub slice_bounds-put_table-end-2 : goal.slice_bounds-put_table-end-2
slice_bounds-put_table-end-2 c = let z : length c.first_power-w.result ≡ 128 = c.first_power-w.ensures.size in sym (length-take-le _ c.first_power-w.result (omega arith))

pub loop-r-init : goal.loop-r-init
loop-r-init c =
    let a = c.args in
    let t = c.put_table.ensures ∙ table_in_all a.m a.g.now _ (length-replicate {A = ℕ} 5120 0) in
    let w = row_first a.m a.g.now _ _ t c.first_power-w.ensures in
    (omega arith, sym (zero-mul (length a.g.now)), w, w, t, c.put_table-2.ensures ∙ table_in_all a.m _ _ (length-replicate {A = ℕ} 5120 0), powers_none a.m a.g.now a.rows.now c.requires.3)

pub overflow_add-e : goal.overflow_add-e
overflow_add-e c =
    let l = c.loop-r in
    let a = c.args in
    omega (arith, room (length a.g.now) l.r l.rows (omega arith) l.invariant.6.size (omega arith))

pub offset_bounds-rows-at : goal.offset_bounds-rows-at
offset_bounds-rows-at c =
    let l = c.loop-r in
    let a = c.args in
    omega (arith, room (length a.g.now) l.r l.rows (omega arith) l.invariant.6.size (omega arith))

pub slice_bounds-copy_each-end : goal.slice_bounds-copy_each-end
slice_bounds-copy_each-end c =
    let l = c.loop-r in
    let a = c.args in
    omega (arith, room (length a.g.now) l.r l.rows (omega arith) l.invariant.6.size (omega arith))

pub slice_bounds-w-end-in-loop-r : goal.slice_bounds-w-end-in-loop-r
slice_bounds-w-end-in-loop-r c = let z = c.loop-r.invariant.2.size in omega arith

pub slice_bounds-copy_each-end-in-loop-r : goal.slice_bounds-copy_each-end-in-loop-r
slice_bounds-copy_each-end-in-loop-r c = let l = c.loop-r in let z = l.invariant.2.size in sym (length-take-le _ l.w (omega arith))

pub slice_bounds-w-end-in-loop-r-2 : goal.slice_bounds-w-end-in-loop-r-2
slice_bounds-w-end-in-loop-r-2 c = let z = c.loop-r.invariant.2.size in omega arith

pub slice_bounds-multiply-end : goal.slice_bounds-multiply-end
slice_bounds-multiply-end c = let l = c.loop-r in let z = l.invariant.2.size in sym (length-take-le _ l.w (omega arith))

pub multiply-requires : goal.multiply-requires
multiply-requires c = let l = c.loop-r in let a = c.args in let z = l.invariant.2.size in omega (arith, length-take-le (length a.g.now) l.w (omega arith))

pub loop-r-preserved : goal.loop-r-preserved
loop-r-preserved c =
    let l = c.loop-r in
    let a = c.args in
    let g : List ℕ = a.g.now in
    let n : ℕ = length g in
    let rm : l.r * n + n ≤ length l.rows = room n l.r l.rows (omega arith) l.invariant.6.size (omega arith) in
    let part : length (take n l.w) ≡ n = length-take-le n l.w (let z = l.invariant.2.size in omega arith) in
    let first : length (take n c.first_power-w.result) ≡ n = length-take-le n _ (let z = l.invariant.3.size in omega arith) in
    let row : take (l.at + n - l.at) (drop l.at l.rows) ≡ row_at n l.rows l.r = part_row_lem n l.rows l.r l.at (l.at + n) l.invariant.1 refl in
    let new = c.copy_each in
    let y : new.new.r ≡ take n l.w = new.ensures ∙ copied _ (take n l.w) (ap length row ∙ length_row n l.rows l.r rm ∙ sym part) in
    let k : l.at + n - l.at ≡ n = omega arith in (
      omega arith,
      omega (arith, next_row l.r n),
      row_next a.m g _ l.r _ l.w _ l.invariant.4 (omega arith) l.invariant.3 l.invariant.2 (c.multiply.ensures a.m _ c.requires.0 l.invariant.5 (first ∙ sym part)),
      l.invariant.3,
      l.invariant.4,
      l.invariant.5,
      subst (Powers a.m g (l.r + 1)) (sym (ap₂ (λ (q k : ℕ). put_mid q k l.rows new.new.r) l.invariant.1 k ∙ ap (put_mid (l.r * n) n l.rows) y))
          (powers_next a.m g l.r l.w l.rows (omega arith) (omega arith) l.invariant.2 l.invariant.6),
    )

pub shape_of-rows : goal.shape_of-rows
shape_of-rows c = c.loop-r.invariant.6.size ∙ sym c.requires.3

pub returns : goal.returns
returns c =
    let l = c.loop-r in
    let a = c.args in
    let e : l.r ≡ length a.g.now - 1 = omega arith in
    subst (λ (k : ℕ). Powers a.m a.g.now k l.rows) e l.invariant.6
