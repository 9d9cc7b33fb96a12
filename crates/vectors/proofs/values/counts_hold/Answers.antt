-- The invariant: the values from v on decide. Assumes nothing.
use mathlib.Core.Path.{refl, sym, ◌∙◌}
use native.Mathlib.Omega.{arith}
use lib.ListN.{get_or}
use Rattle.vectors.specs.Values.{occurrences_of, counts_hold}
use Rattle.vectors.proofs.Places.{same_from, same_end, same_next, same_stop}
use Rattle.vectors.proofs.values.counts_hold.Goals as goal

pub loop-v-init : goal.loop-v-init
unfolding same_from counts_hold
loop-v-init c = (omega arith, refl)

pub returns-then-counts-v : goal.returns-then-counts-v
returns-then-counts-v c =
    let l = c.loop-v in
    let a = c.args in
    sym (same_stop (λ w. get_or a.counts.now w 0) (λ w. occurrences_of w a.bytes.now) 256 l.v c.occurrences.ensures (omega arith) c.if-counts-v.true) ∙ l.invariant.1

pub loop-v-preserved : goal.loop-v-preserved
loop-v-preserved c =
    let l = c.loop-v in
    let a = c.args in
    (omega arith, sym (same_next (λ w. get_or a.counts.now w 0) (λ w. occurrences_of w a.bytes.now) 256 l.v c.occurrences.ensures (omega arith) c.if-counts-v.false) ∙ l.invariant.1)

pub returns : goal.returns
returns c =
    let l = c.loop-v in
    let a = c.args in
    sym (same_end (λ w. get_or a.counts.now w 0) (λ w. occurrences_of w a.bytes.now) 256 l.v c.loop-v-test.false) ∙ l.invariant.1
