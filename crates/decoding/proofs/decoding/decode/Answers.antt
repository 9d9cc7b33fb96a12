-- The first n and t numbers are those of the lent parts. Assumes nothing.
use mathlib.Core.Path.{◌≡◌, sym, ◌∙◌}
use borrow.Author.Rules.{rules}
use lib.ListN.{length}
use Rattle.key.specs.Kept.{parts}
use Rattle.key.proofs.Order.{failed, passed}
use Rattle.decoding.proofs.Explained.{decoded_outside, lent_places, lent_errors, lent_limits, lent_found}
use Rattle.decoding.proofs.decoding.decode.Goals as goal

pub returns-then-not-in_limits : goal.returns-then-not-in_limits
returns-then-not-in_limits c =
    let a = c.args in
    let k = parts a.m a.n a.t a.support.now a.g.now in
    c.nothing.ensures ∙ decoded_outside k a.word.now (failed c.in_limits.ensures c.if-not-in_limits.true)

pub slice_bounds-explain-end : goal.slice_bounds-explain-end
slice_bounds-explain-end c =
    let a = c.args in
    let k = parts a.m a.n a.t a.support.now a.g.now in
    let e : length a.support.now ≡ 8192 = search rules in
    let f : length a.g.now ≡ 128 = search rules in
    sym (lent_places k a.word.now (passed c.in_limits.ensures c.if-not-in_limits.false) e f)

pub slice_bounds-explain-end-2 : goal.slice_bounds-explain-end-2
slice_bounds-explain-end-2 c =
    let a = c.args in
    let k = parts a.m a.n a.t a.support.now a.g.now in
    let e : length a.support.now ≡ 8192 = search rules in
    let f : length a.g.now ≡ 128 = search rules in
    sym (lent_errors k a.word.now (passed c.in_limits.ensures c.if-not-in_limits.false) e f)

pub explain-requires : goal.explain-requires
explain-requires c =
    let a = c.args in
    let k = parts a.m a.n a.t a.support.now a.g.now in
    let e : length a.support.now ≡ 8192 = search rules in
    let f : length a.g.now ≡ 128 = search rules in
    lent_limits k a.word.now (passed c.in_limits.ensures c.if-not-in_limits.false) e f

pub returns : goal.returns
returns c =
    let a = c.args in
    let k = parts a.m a.n a.t a.support.now a.g.now in
    let e : length a.support.now ≡ 8192 = search rules in
    let f : length a.g.now ≡ 128 = search rules in
    lent_found k a.word.now (passed c.in_limits.ensures c.if-not-in_limits.false) e f c.explain.ensures
