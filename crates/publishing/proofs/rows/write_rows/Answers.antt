-- The loop's invariant: the first r rows are written, at the places where the next one follows. Assumes nothing.
use mathlib.Core.Path.{◌≡◌, refl, sym, ap, ◌∙◌}
use mathlib.Core.List.{List, ◌++◌}
use Prim.Native.Nat.{ℕ, ◌+◌, ◌-◌, ◌*◌}
use native.Mathlib.Nat.{zero-mul, add-zero}
use native.Mathlib.Omega.{arith}
use borrow.Rule.Slice.PartMut.{same_len_mid}
use lib.ListN.{length, take, drop, length-drop}
use Rattle.bits.specs.Bits.{bytes_for, over, row_written}
use Rattle.bits.proofs.PutBits.{written_row}
use Rattle.bits.proofs.Parts.{rows_in, next_row, row_size, part_all, part_back}
use Rattle.publishing.proofs.WrittenRows.{tails, tails_none, tails_over, row_place}
use Rattle.publishing.proofs.rows.write_rows.Goals as goal

pub overflow_mul-step : goal.overflow_mul-step
overflow_mul-step c = let e = row_size c.args.n (omega arith) in omega arith

pub loop-r-init : goal.loop-r-init
loop-r-init c =
    let a = c.args in (
      omega arith,
      sym (zero-mul (bytes_for (a.n - a.rows))),
      sym (ap (◌+◌ a.rows) (zero-mul (8 * bytes_for a.n)) ∙ add-zero a.rows),
      refl,
      tails_none a.rows a.n a.work.now a.out.now,
    )

pub slice_bounds-write_row-count : goal.slice_bounds-write_row-count
slice_bounds-write_row-count c =
    let a = c.args in
    let e = rows_in c.loop-r.r a.rows (bytes_for (a.n - a.rows)) (omega arith) in
    omega arith

pub slice_bounds-write_row-start : goal.slice_bounds-write_row-start
slice_bounds-write_row-start c =
    let a = c.args in
    let e = rows_in c.loop-r.r a.rows (bytes_for (a.n - a.rows)) (omega arith) in
    omega arith

pub slice_bounds-write_row-end : goal.slice_bounds-write_row-end
slice_bounds-write_row-end c =
    let a = c.args in
    let e = rows_in c.loop-r.r a.rows (bytes_for (a.n - a.rows)) (omega arith) in
    omega arith

pub overflow_cast-base : goal.overflow_cast-base
overflow_cast-base c =
    let a = c.args in
    let f = row_place a.rows a.n c.loop-r.r (omega arith) (omega arith) (omega arith) in
    omega arith

pub overflow_add-at : goal.overflow_add-at
overflow_add-at c =
    let a = c.args in
    let e = rows_in c.loop-r.r a.rows (bytes_for (a.n - a.rows)) (omega arith) in
    omega arith

pub overflow_add-base : goal.overflow_add-base
overflow_add-base c =
    let a = c.args in
    let f = row_place a.rows a.n c.loop-r.r (omega arith) (omega arith) (omega arith) in
    omega arith

pub loop-r-preserved : goal.loop-r-preserved
loop-r-preserved c =
    let l = c.loop-r in
    let a = c.args in
    let q = c.write_row in
    let size : ℕ = bytes_for (a.n - a.rows) in
    let step : ℕ = 8 * bytes_for a.n in
    let e = rows_in l.r a.rows size (omega arith) in
    let s = next_row l.r size in
    let t = next_row l.r step in (
      omega arith,
      omega arith,
      omega arith,
      same_len_mid l.at (length l.out - l.at) l.out q.new.out q.auto.out ∙ l.invariant.3,
      part_back l.at l.out q.new.out
          ∙ ap (λ (y : List ℕ). take l.at l.out ++ y) (q.ensures
          ∙ ap (row_written a.work.now l.base (a.n - a.rows)) (part_all l.at l.out)
          ∙ written_row a.work.now l.base (a.n - a.rows) (drop l.at l.out) (rw (length-drop l.at l.out) (omega arith)))
          ∙ tails_over a.rows a.n a.work.now l.r l.at l.base l.out a.out.now (omega arith) l.invariant.1 l.invariant.2 l.invariant.4,
    )

pub shape_of-out : goal.shape_of-out
shape_of-out c = c.loop-r.invariant.3

pub returns : goal.returns
returns c =
    let l = c.loop-r in
    let a = c.args in
    let e : l.r ≡ a.rows = omega arith in
    l.invariant.4 ∙ ap (λ (r : ℕ). over (tails a.rows a.n a.work.now r) a.out.now) e
