-- The loop's invariant: the rows from r on decide. Assumes nothing.
use mathlib.Core.Path.{refl, sym, ◌∙◌}
use native.Mathlib.Nat.{zero-mul}
use native.Mathlib.Omega.{arith}
use Rattle.bits.specs.Bits.{from, bytes_for}
use Rattle.bits.proofs.Lists.{every-next, every_stop, every_end, length_from}
use Rattle.bits.proofs.Parts.{rows_in, next_row}
use Rattle.key.proofs.Order.{failed, passed}
use Rattle.locking.proofs.Rows.{row_filler}
use Rattle.locking.proofs.fillers_clear.Goals as goal

pub loop-r-init : goal.loop-r-init
loop-r-init c = (omega arith, sym (zero-mul _), omega arith, refl)

pub returns-then-not-filler_clear : goal.returns-then-not-filler_clear
returns-then-not-filler_clear c =
    let l = c.loop-r in
    let a = c.args in
    every_stop _ (from 0 a.rows) l.r (rw length_from (omega arith))
    (row_filler a.rows a.w a.public.now l.r (omega arith) l.at l.invariant.1 ∙ failed c.filler_clear.ensures c.if-not-filler_clear.true)
    ∙ l.invariant.3

pub overflow_add-at : goal.overflow_add-at
overflow_add-at c =
    let l = c.loop-r in
    let a = c.args in
    omega (arith, rows_in l.r a.rows (bytes_for a.w) (omega arith))

pub loop-r-preserved : goal.loop-r-preserved
loop-r-preserved c =
    let l = c.loop-r in
    let a = c.args in (
      omega arith,
      omega (arith, next_row l.r (bytes_for a.w)),
      omega (arith, rows_in l.r a.rows (bytes_for a.w) (omega arith)),
      every-next _ (from 0 a.rows) l.r (rw length_from (omega arith))
          (row_filler a.rows a.w a.public.now l.r (omega arith) l.at l.invariant.1 ∙ passed c.filler_clear.ensures c.if-not-filler_clear.false)
          ∙ l.invariant.3,
    )

pub returns : goal.returns
returns c =
    let l = c.loop-r in
    every_end _ _ l.r (rw length_from (omega arith)) ∙ l.invariant.3
