-- The sums over the word's points are the word's. Assumes nothing.
use mathlib.Core.Path.{◌≡◌, sym, ap, ◌∙◌}
use native.Mathlib.Omega.{arith}
use borrow.Author.Rules.{rules}
use lib.ListN.{length}
use Rattle.bench_calls.proofs.Powers.{length_points, sums_points}
use Rattle.bench_calls.proofs.sums.sums_afresh.Goals as goal

pub slice_bounds-at-end : goal.slice_bounds-at-end
slice_bounds-at-end c =
    let p = c.word_points-c in
    let a = c.args in
    let l : length p.result.at ≡ 8192 = search rules in
    omega (arith, p.ensures.number, length_points a.support.now a.word.now)

pub slice_bounds-each_sum-end : goal.slice_bounds-each_sum-end
slice_bounds-each_sum-end c = let h = c.word_points-c.ensures in h.number ∙ sym (ap length h.all)

pub each_sum-requires : goal.each_sum-requires
each_sum-requires c =
    let a = c.args in
    (c.requires.0, omega (arith, ap length c.word_points-c.ensures.all, length_points a.support.now a.word.now), c.requires.2)

pub returns : goal.returns
returns c =
    let a = c.args in
    sums_points a.m a.support.now a.g.now a.word.now c.requires.1 _ c.word_points-c.ensures.all c.each_sum.ensures
