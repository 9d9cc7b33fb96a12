-- The loop's invariant: i rows are done, and `at` is the place of the next. Assumes nothing.
use mathlib.Core.Path.{◌≡◌, refl, sym, ap, ap₂, ◌∙◌, subst}
use mathlib.Core.List.{List}
use Prim.Native.Nat.{ℕ, ◌+◌, ◌-◌, ◌*◌, ◌≤◌, ◌<◌}
use native.Mathlib.Omega.{arith}
use borrow.Rule.Slice.PartMut.{put_mid}
use lib.ListN.{length, get_or}
use Rattle.row_tables.specs.RowTable.{add_multiple}
use Rattle.irreducible.specs.Rows.{row_at, Added}
use Rattle.irreducible.proofs.Rows.{row_room, row_next, rows_le, row_start, row_at_lem, part_row_lem, added_none, added_next}
use Rattle.irreducible.proofs.independence.add_column.Goals as goal

bounds : (d k n i at len : ℕ) → i < k → at ≡ (d + i) * n → (d + k) * n ≤ len → at + n ≤ len
bounds d k n i at len h e l = omega (arith, row_room (d + i) (d + k) n len (omega arith) l)

pub overflow_mul-at : goal.overflow_mul-at
overflow_mul-at c = let a = c.args in omega (arith, rows_le a.d (a.d + a.k) a.n (omega arith))

pub loop-i-init : goal.loop-i-init
loop-i-init c = let a = c.args in (omega arith, sym (row_start a.d a.n), added_none _ _ _ _ _)

pub overflow_add-e : goal.overflow_add-e
overflow_add-e c = let l = c.loop-i in let a = c.args in omega (arith, bounds a.d a.k a.n l.i l.at (length a.rows.now) (omega arith) l.invariant.1 (omega arith), l.invariant.2.size)

pub overflow_add-c : goal.overflow_add-c
overflow_add-c c = let l = c.loop-i in let a = c.args in omega (arith, bounds a.d a.k a.n l.i l.at (length a.rows.now) (omega arith) l.invariant.1 (omega arith), l.invariant.2.size)

pub offset_bounds-rows-at : goal.offset_bounds-rows-at
offset_bounds-rows-at c = let l = c.loop-i in let a = c.args in omega (arith, bounds a.d a.k a.n l.i l.at (length a.rows.now) (omega arith) l.invariant.1 (omega arith), l.invariant.2.size)

pub bounds-rows-at : goal.bounds-rows-at
bounds-rows-at c = let l = c.loop-i in let a = c.args in omega (arith, bounds a.d a.k a.n l.i l.at (length a.rows.now) (omega arith) l.invariant.1 (omega arith), l.invariant.2.size)

pub offset_bounds-rows-at-in-loop-i : goal.offset_bounds-rows-at-in-loop-i
offset_bounds-rows-at-in-loop-i c = let l = c.loop-i in let a = c.args in omega (arith, bounds a.d a.k a.n l.i l.at (length a.rows.now) (omega arith) l.invariant.1 (omega arith), l.invariant.2.size)

pub slice_bounds-add_multiple-count : goal.slice_bounds-add_multiple-count
slice_bounds-add_multiple-count c = let l = c.loop-i in let a = c.args in omega (arith, bounds a.d a.k a.n l.i l.at (length a.rows.now) (omega arith) l.invariant.1 (omega arith), l.invariant.2.size)

pub slice_bounds-add_multiple-start : goal.slice_bounds-add_multiple-start
slice_bounds-add_multiple-start c = let l = c.loop-i in let a = c.args in omega (arith, bounds a.d a.k a.n l.i l.at (length a.rows.now) (omega arith) l.invariant.1 (omega arith), l.invariant.2.size)

pub slice_bounds-add_multiple-end : goal.slice_bounds-add_multiple-end
slice_bounds-add_multiple-end c = let l = c.loop-i in let a = c.args in omega (arith, bounds a.d a.k a.n l.i l.at (length a.rows.now) (omega arith) l.invariant.1 (omega arith), l.invariant.2.size)

pub loop-i-preserved : goal.loop-i-preserved
loop-i-preserved c =
    let l = c.loop-i in
    let a = c.args in
    let called = c.add_multiple in
    let t : List ℕ = a.t.now in
    let r : ℕ = a.d + l.i in
    let row : List ℕ = row_at a.n l.rows r in
    let w : l.at + a.n - l.at ≡ a.n = omega arith in
    let x : get_or l.rows (l.at + a.p) 0 ≡ get_or row a.p 0 = ap (λ (q : ℕ). get_or l.rows (q + a.p) 0) l.invariant.1 ∙ sym (row_at_lem a.n l.rows r a.p (omega arith)) in
    let y : called.new.r ≡ add_multiple t (get_or row a.p 0) row = called.ensures ∙ ap₂ (add_multiple t) x (part_row_lem a.n l.rows r l.at (l.at + a.n) l.invariant.1 refl) in (
      omega arith,
      omega (arith, row_next a.d l.i a.n),
      subst (λ (L : List ℕ). Added t a.n a.p a.d (l.i + 1) a.rows.now L)
          (sym (ap₂ (λ (q k : ℕ). put_mid q k l.rows called.new.r) l.invariant.1 w ∙ ap (put_mid (r * a.n) a.n l.rows) y))
          (added_next t a.n a.p a.d l.i a.rows.now l.rows l.invariant.2 (row_room r (a.d + a.k) a.n _ (omega arith) (omega arith))),
    )

pub shape_of-rows : goal.shape_of-rows
shape_of-rows c = c.loop-i.invariant.2.size

pub returns : goal.returns
returns c =
    let l = c.loop-i in
    let a = c.args in
    let e : l.i ≡ a.k = omega arith in
    subst (λ (k : ℕ). Added a.t.now a.n a.p a.d k a.rows.now l.rows) e l.invariant.2
