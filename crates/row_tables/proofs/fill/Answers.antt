-- The loop's invariant: q rows are made, and the other columns are as they were. Assumes nothing.
use mathlib.Core.Path.{◌≡◌, refl, sym, ◌∙◌, subst}
use Prim.Native.Nat.{ℕ}
use native.Mathlib.Omega.{arith}
use lib.ListN.{length, get_or}
use Rattle.row_tables.specs.Making.{earlier_rows, digit_places, Columns}
use Rattle.row_tables.proofs.Making.{earlier_lt, digit_lt, put_by, columns-start, columns-next, outside, outside_first}
use Rattle.row_tables.proofs.fill.Goals as goal

pub loop-q-init : goal.loop-q-init
loop-q-init c = let a = c.args in (omega arith, omega arith, columns-start a.m a.a.now a.h a.p.now _ c.requires.1 c.zero_half.ensures, λ x h. refl)

pub overflow_mul-s : goal.overflow_mul-s
overflow_mul-s c =
    let q = c.loop-q.q in
    let e : c.earlier.result ≡ get_or earlier_rows q 0 = c.earlier.ensures in
    omega (arith, earlier_lt q (omega arith) (omega arith))

pub overflow_add-s : goal.overflow_add-s
overflow_add-s c =
    let q = c.loop-q.q in
    let e : c.earlier.result ≡ get_or earlier_rows q 0 = c.earlier.ensures in
    omega (arith, earlier_lt q (omega arith) (omega arith))

pub put_half-requires : goal.put_half-requires
put_half-requires c =
    let l = c.loop-q in
    let e : c.earlier.result ≡ get_or earlier_rows l.q 0 = c.earlier.ensures in
    let f : c.digit-j.result ≡ get_or digit_places l.q 0 = c.digit-j.ensures in
    let z : length l.p ≡ 5120 = l.invariant.2.size in
    (omega (arith, digit_lt l.q (omega arith) (omega arith)), omega (arith, earlier_lt l.q (omega arith) (omega arith)), omega arith, omega arith)

pub loop-q-preserved : goal.loop-q-preserved
loop-q-preserved c =
    let l = c.loop-q in
    let a = c.args in
    let p = put_by a.h c.multiples-t.ensures c.digit-j.ensures c.earlier.ensures c.put_half.ensures in (
      omega arith,
      omega arith,
      columns-next a.m a.a.now a.h l.q l.p _ (omega arith) (omega arith) l.invariant.2 p,
      λ x h. p.others x (outside l.q a.h x (omega arith) h) ∙ l.invariant.3 x h,
    )

pub shape_of-p : goal.shape_of-p
shape_of-p c = c.loop-q.invariant.2.size ∙ sym c.requires.1

pub returns : goal.returns
returns c =
    let l = c.loop-q in
    let a = c.args in
    let e : l.q ≡ 40 = omega arith in
    record { columns = subst (λ (k : ℕ). Columns a.m a.a.now a.h k l.p) e l.invariant.2; by_index = λ x h. l.invariant.3 x h ∙ c.zero_half.ensures.others x (outside_first a.h x (omega arith) h) }
