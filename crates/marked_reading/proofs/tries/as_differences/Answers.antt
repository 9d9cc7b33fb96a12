-- The differences, counted at unmarked places. Assumes nothing.
use mathlib.Core.Path.{ap, ◌∙◌}
use mathlib.Core.List.{List}
use Prim.Native.Nat.{ℕ, ◌+◌, ◌*◌, ◌≤◌}
use native.Mathlib.Omega.{arith}
use borrow.Author.Tests.{not-true, not-false}
use mir.Val.{Fits}
use mir.Syntax.{w16, w64}
use Rattle.bits.specs.Bits.{xor_row}
use Rattle.marked_reading.proofs.Readings.{differences-le, marks_le, differences_none, differences_many, differences_few}
use Rattle.marked_reading.proofs.tries.as_differences.Goals as goal

pub returns-then-not-e : goal.returns-then-not-e
returns-then-not-e c = differences_none _ _ _ _ _ _ (not-true _ c.if-not-e.true)

pub overflow_mul-d : goal.overflow_mul-d
overflow_mul-d c =
    let l : c.differences-d.result ≤ c.args.n = differences-le _ _ _ c.differences-d.ensures in
    let h : Fits w64 (2 * c.differences-d.result) = omega (arith, c.ranges.n) in
    h

pub overflow_add-d : goal.overflow_add-d
overflow_add-d c =
    let l : c.differences-d.result ≤ c.args.n = differences-le _ _ _ c.differences-d.ensures in
    let s : c.weight-s.result ≤ c.args.n = marks_le _ _ c.weight-s.ensures in
    let h : Fits w64 (2 * c.differences-d.result + c.weight-s.result) = omega (arith, c.ranges.n) in
    h

pub returns-then-t-d : goal.returns-then-t-d
returns-then-t-d c =
    let a = c.args in
    let p = c.xor_row-2.ensures ∙ ap (λ (p : List ℕ). xor_row p a.word.now) c.xor_row.ensures in
    c.nothing.ensures
    ∙ differences_many _ _ a.filled.now a.word.now _ a.e (not-false _ c.if-not-e.false)
    p c.differences-d.ensures c.weight-s.ensures c.if-t-d.true

pub overflow_cast-ones : goal.overflow_cast-ones
overflow_cast-ones c =
    let l : c.differences-d.result ≤ c.args.n = differences-le _ _ _ c.differences-d.ensures in
    let h : Fits w16 c.differences-d.result = omega (arith, c.ranges.n) in
    h

pub returns : goal.returns
returns c =
    let a = c.args in
    let p = c.xor_row-2.ensures ∙ ap (λ (p : List ℕ). xor_row p a.word.now) c.xor_row.ensures in
    differences_few _ _ a.filled.now a.word.now _ a.e (not-false _ c.if-not-e.false)
    p c.differences-d.ensures c.weight-s.ensures c.if-t-d.false
