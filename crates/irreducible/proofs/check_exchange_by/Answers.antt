-- The key, then its g. Assumes nothing.
use mathlib.Core.Path.{sym, ap, ◌∙◌}
use native.Mathlib.Omega.{arith}
use Rattle.field.specs.Verdicts.{verdict_of}
use Rattle.field.proofs.Verdicts.{refuses, verdict_accepted, verdict_refused}
use Rattle.field.proofs.Arrays.{elements-every}
use Rattle.key.specs.Keys.{reducible}
use Rattle.key.specs.Kept.{kept, parts}
use Rattle.key.proofs.Accepted.{Accepted, accepted}
use Rattle.irreducible.proofs.Exchange.{exchange-unsound, exchange-reducible, exchange_right}
use Rattle.irreducible.proofs.check_exchange_by.Goals as goal

pub returns-in_default : goal.returns-in_default
returns-in_default c = refuses (exchange-unsound _ (verdict_refused _ c.check_key-x.ensures c.in_default.is))

pub slice_bounds-splits-end : goal.slice_bounds-splits-end
unfolding kept
slice_bounds-splits-end c =
    let a = c.args in
    let k = parts a.m a.n a.t a.support.now a.g.now in
    let A : Accepted (kept k) = accepted (kept k) (verdict_accepted _ c.check_key-x.ensures c.in-Accepted.is) in
    sym A.g_length

pub splits-requires : goal.splits-requires
unfolding kept
splits-requires c =
    let a = c.args in
    let k = parts a.m a.n a.t a.support.now a.g.now in
    let A : Accepted (kept k) = accepted (kept k) (verdict_accepted _ c.check_key-x.ensures c.in-Accepted.is) in
    (A.width, omega (arith, A.g_length, A.limits.some), omega (arith, A.g_length, A.limits.few), elements-every a.m _ A.g_below, A.square_free)

pub returns-then-splits : goal.returns-then-splits
unfolding kept reducible
returns-then-splits c =
    let z = verdict_accepted _ c.check_key-x.ensures c.in-Accepted.is in
    refuses (exchange-reducible _ z (sym c.splits.ensures ∙ c.if-splits.true))

pub returns : goal.returns
unfolding kept reducible
returns c =
    let r = c.check_key-x.ensures in
    let z = verdict_accepted _ r c.in-Accepted.is in
    r ∙ ap verdict_of (z ∙ exchange_right _ z (sym c.splits.ensures ∙ c.if-splits.false))
