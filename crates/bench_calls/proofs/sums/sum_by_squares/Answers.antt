-- The inverses, their squares, the products. Assumes nothing.
use mathlib.Core.Path.{ap, ◌∙◌}
use mathlib.Core.List.{List}
use Prim.Native.Nat.{ℕ}
use Rattle.field.specs.Poly.{horner_each}
use Rattle.field.proofs.Verdicts.{verdict_accepted}
use Rattle.field.proofs.Units.{inverses_given}
use Rattle.poly.specs.Polynomials.{sum}
use Rattle.bench_calls.proofs.Powers.{squares_refused, squares_accepted}
use Rattle.bench_calls.proofs.sums.sum_by_squares.Goals as goal

pub returns-in_default : goal.returns-in_default
returns-in_default c = squares_refused _ _ _ c.inverse_each-x.ensures.answer c.in_default.is

pub returns : goal.returns
returns c =
    let a = c.args in
    let e = c.inverse_each-x.ensures in
    let v = inverses_given a.m a.v.now (verdict_accepted _ e.answer c.in-Accepted.is) e.output in
    squares_accepted _ _ _ e.answer c.in-Accepted.is
    (c.total-value.ensures
    ∙ ap sum (c.horner_each.ensures ∙ ap (λ (l : List ℕ). horner_each a.m 0 l a.p.now) (c.square_each.ensures ∙ ap (λ (l : List ℕ). horner_each a.m 0 l l) v)))
