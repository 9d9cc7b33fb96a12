-- The tests of the sums and of the places found. Assumes nothing.
use mathlib.Core.Path.{◌≡◌, sym, ◌∙◌}
use Prim.Native.Nat.{◌*◌}
use native.Mathlib.Omega.{arith}
use borrow.Author.Rules.{rules}
use native.Mathlib.Nat.{min-le_left}
use lib.ListN.{length, length-take}
use lib.Seq.{length-take-le}
use Rattle.poly.proofs.Answers.{number_none}
use Rattle.key.proofs.Order.{failed, passed}
use Rattle.decoding.proofs.Explained.{in_limits_lem, candidate_refused, candidate_outside, candidate_no_element, candidate_many, candidate_few}
use Rattle.decoding.proofs.decoding.candidate.Goals as goal

pub returns-in_default : goal.returns-in_default
returns-in_default c = c.nothing.ensures ∙ candidate_refused _ _ _ _ c.in_default.is

pub returns-then-not-in_limits : goal.returns-then-not-in_limits
returns-then-not-in_limits c = c.nothing-then-not-in_limits.ensures ∙ candidate_outside _ _ _ _ c.in-Accepted.is (failed c.in_limits.ensures c.if-not-in_limits.true)

pub overflow_mul-k : goal.overflow_mul-k
overflow_mul-k c =
    let a = c.args in
    let l = in_limits_lem a.m (length a.support.now) a.t (passed c.in_limits.ensures c.if-not-in_limits.false) in
    omega arith

pub slice_bounds-s-end : goal.slice_bounds-s-end
slice_bounds-s-end c =
    let a = c.args in
    let l = in_limits_lem a.m (length a.support.now) a.t (passed c.in_limits.ensures c.if-not-in_limits.false) in
    let n : length a.w.s ≡ 256 = search rules in
    omega arith

pub slice_bounds-sums-end : goal.slice_bounds-sums-end
slice_bounds-sums-end c =
    let a = c.args in
    let l = in_limits_lem a.m (length a.support.now) a.t (passed c.in_limits.ensures c.if-not-in_limits.false) in
    let n : length a.w.s ≡ 256 = search rules in
    sym (length-take-le _ a.w.s (omega arith))

pub returns-then-not-elements : goal.returns-then-not-elements
returns-then-not-elements c =
    c.nothing-then-not-elements.ensures
    ∙ candidate_no_element _ _ _ _ c.in-Accepted.is (passed c.in_limits.ensures c.if-not-in_limits.false) (failed c.elements.ensures c.if-not-elements.true)

pub located-pattern-requires : goal.located-pattern-requires
located-pattern-requires c =
    let a = c.args in
    let l = in_limits_lem a.m (length a.support.now) a.t (passed c.in_limits.ensures c.if-not-in_limits.false) in
    (l.1, number_none a.m _ l.0 (omega (arith, length-take (2 * a.t) a.w.s, min-le_left (2 * a.t) (length a.w.s))) (passed c.elements.ensures c.if-not-elements.false))

pub returns-then-t-ones : goal.returns-then-t-ones
returns-then-t-ones c =
    c.nothing-then-t-ones.ensures
    ∙ candidate_many _ _ _ _ c.in-Accepted.is (passed c.in_limits.ensures c.if-not-in_limits.false) (passed c.elements.ensures c.if-not-elements.false)
    c.located-pattern.ensures c.weight-ones.ensures c.if-t-ones.true

pub overflow_cast-count : goal.overflow_cast-count
overflow_cast-count c =
    let a = c.args in
    let l = in_limits_lem a.m (length a.support.now) a.t (passed c.in_limits.ensures c.if-not-in_limits.false) in
    omega arith

pub returns : goal.returns
returns c =
    candidate_few _ _ _ _ c.in-Accepted.is (passed c.in_limits.ensures c.if-not-in_limits.false) (passed c.elements.ensures c.if-not-elements.false)
    c.located-pattern.ensures c.weight-ones.ensures c.if-t-ones.false
