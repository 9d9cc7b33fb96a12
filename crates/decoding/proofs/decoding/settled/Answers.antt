-- The verdict, then the sums. Assumes nothing.
use mathlib.Core.Path.{◌≡◌, ◌∙◌}
use native.Mathlib.Omega.{arith}
use borrow.Author.Rules.{rules}
use lib.ListN.{length}
use Rattle.key.proofs.Order.{failed, passed}
use Rattle.decoding.proofs.Explained.{settled_refused, settled_other, settled_same}
use Rattle.decoding.proofs.decoding.settled.Goals as goal

pub returns-in_default : goal.returns-in_default
returns-in_default c = c.nothing.ensures ∙ settled_refused _ _ _ c.in_default.is

pub same-requires : goal.same-requires
same-requires c =
    let a = c.args in
    let o : length a.own.s ≡ 256 = search rules in
    let w : length a.w.s ≡ 256 = search rules in
    omega arith

pub returns-then-not-same : goal.returns-then-not-same
returns-then-not-same c =
    c.nothing-then-not-same.ensures
    ∙ settled_other _ _ _ c.in-Accepted.is (failed c.same.ensures c.if-not-same.true)

pub returns : goal.returns
returns c = settled_same _ _ _ c.in-Accepted.is (passed c.same.ensures c.if-not-same.false)
