-- The places that the sums give, then their own sums. Assumes nothing.
use mathlib.Core.Path.{◌∙◌}
use borrow.Author.Tests.{not-true, not-false}
use Rattle.decoding.proofs.Explained.{found_none, found_settled}
use Rattle.decoding.proofs.decoding.explain.Goals as goal

pub word_sums-w-requires : goal.word_sums-w-requires
word_sums-w-requires c = c.requires

pub returns-then-not-f : goal.returns-then-not-f
returns-then-not-f c =
    let a = c.args in
    found_none a.m a.support.now a.g.now c.requires a.word.now c.word_sums-w.ensures c.candidate-f.ensures (not-true _ c.if-not-f.true)

pub word_sums-own-requires : goal.word_sums-own-requires
word_sums-own-requires c = c.requires

pub returns : goal.returns
returns c =
    let a = c.args in
    c.settled.ensures
    ∙ found_settled a.m a.support.now a.g.now c.requires a.word.now c.word_sums-w.ensures c.candidate-f.ensures (not-false _ c.if-not-f.false) c.word_sums-own.ensures
