-- The tests in order. Assumes nothing.
use mathlib.Core.Path.{sym, ◌∙◌}
use Rattle.field.proofs.Verdicts.{refuses, accepts}
use Rattle.euclid.proofs.Answers.{square_in_bounds}
use Rattle.key.proofs.Order.{failed, passed, distinct-elements, early_support, early_coefficient, early_twice, early_square, early_none}
use Rattle.key.proofs.checks.faults_but_roots.Goals as goal

pub returns-then-not-elements : goal.returns-then-not-elements
returns-then-not-elements c = refuses (early_support _ _ _ (failed c.elements.ensures c.if-not-elements.true))

pub returns-then-not-elements-2 : goal.returns-then-not-elements-2
returns-then-not-elements-2 c = refuses (early_coefficient _ _ _ (passed c.elements.ensures c.if-not-elements.false) (failed c.elements-2.ensures c.if-not-elements-2.true))

pub returns-then-not-distinct : goal.returns-then-not-distinct
returns-then-not-distinct c =
    let s = passed c.elements.ensures c.if-not-elements.false in
    refuses
    (early_twice _ _ _
    s
    (passed c.elements-2.ensures c.if-not-elements-2.false)
    (failed (c.distinct.ensures ∙ distinct-elements _ _ c.requires.0 s) c.if-not-distinct.true))

pub returns-then-has_square : goal.returns-then-has_square
returns-then-has_square c =
    let pre = c.requires in
    let s = passed c.elements.ensures c.if-not-elements.false in
    let g = passed c.elements-2.ensures c.if-not-elements-2.false in
    refuses
    (early_square _ _ _
    s
    g
    (passed (c.distinct.ensures ∙ distinct-elements _ _ pre.0 s) c.if-not-distinct.false)
    (sym (square_in_bounds _ _ pre.0 pre.1 g) ∙ sym c.has_square.ensures ∙ c.if-has_square.true))

pub returns : goal.returns
returns c =
    let pre = c.requires in
    let s = passed c.elements.ensures c.if-not-elements.false in
    let g = passed c.elements-2.ensures c.if-not-elements-2.false in
    accepts
    (early_none _ _ _
    s
    g
    (passed (c.distinct.ensures ∙ distinct-elements _ _ pre.0 s) c.if-not-distinct.false)
    (sym (square_in_bounds _ _ pre.0 pre.1 g) ∙ sym c.has_square.ensures ∙ c.if-has_square.false))
