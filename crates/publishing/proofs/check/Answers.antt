-- The tests in order. Assumes nothing.
use mathlib.Core.Path.{ap, ◌∙◌}
use Prim.Native.Nat.{◌-◌, ◌*◌}
use native.Mathlib.Omega.{arith}
use Rattle.field.specs.Verdicts.{verdict_of}
use Rattle.field.proofs.Verdicts.{refuses, verdict_accepted, verdict_refused}
use Rattle.key.specs.Kept.{kept, parts}
use Rattle.irreducible.proofs.Exchange.{exchange-clear}
use Rattle.elimination.proofs.Sizes.{sizes-le}
use Rattle.publishing.proofs.Checks.{Sizes, sizes, check_key, check_output, check_work, check_none}
use Rattle.publishing.proofs.check.Goals as goal

pub returns-in_default : goal.returns-in_default
returns-in_default c =
    let r = c.check_exchange-x.ensures in
    r ∙ ap verdict_of (check_key _ _ _ (verdict_refused _ r c.in_default.is))

pub overflow_mul-rows : goal.overflow_mul-rows
unfolding kept
overflow_mul-rows c =
    let a = c.args in
    let k = parts a.m a.n a.t a.support.now a.g.now in
    let z = verdict_accepted _ c.check_exchange-x.ensures c.in-Accepted.is in
    let s : Sizes (kept k) = sizes (kept k) (exchange-clear (kept k) z).0 in
    omega (arith, s.rows, s.columns)

pub overflow_sub-places : goal.overflow_sub-places
unfolding kept
overflow_sub-places c =
    let a = c.args in
    let k = parts a.m a.n a.t a.support.now a.g.now in
    let z = verdict_accepted _ c.check_exchange-x.ensures c.in-Accepted.is in
    let s : Sizes (kept k) = sizes (kept k) (exchange-clear (kept k) z).0 in
    omega (arith, s.rows)

pub overflow_mul-rows-2 : goal.overflow_mul-rows-2
unfolding kept
overflow_mul-rows-2 c =
    let a = c.args in
    let k = parts a.m a.n a.t a.support.now a.g.now in
    let z = verdict_accepted _ c.check_exchange-x.ensures c.in-Accepted.is in
    let s : Sizes (kept k) = sizes (kept k) (exchange-clear (kept k) z).0 in
    let e = sizes-le (k.m * k.t) (k.n - k.m * k.t) c.bytes_for.result (omega (arith, s.rows, s.columns)) (omega (arith, s.columns)) c.bytes_for.ensures in
    omega arith

pub returns-then-out-rows : goal.returns-then-out-rows
unfolding kept
returns-then-out-rows c =
    let a = c.args in
    let k = parts a.m a.n a.t a.support.now a.g.now in
    let z = verdict_accepted _ c.check_exchange-x.ensures c.in-Accepted.is in
    let e = ap (◌*◌ (k.m * k.t)) c.bytes_for.ensures in
    refuses (check_output (kept k) _ _ z (omega arith))

pub overflow_mul-rows-3 : goal.overflow_mul-rows-3
unfolding kept
overflow_mul-rows-3 c =
    let a = c.args in
    let k = parts a.m a.n a.t a.support.now a.g.now in
    let z = verdict_accepted _ c.check_exchange-x.ensures c.in-Accepted.is in
    let s : Sizes (kept k) = sizes (kept k) (exchange-clear (kept k) z).0 in
    let e = sizes-le (k.m * k.t) k.n c.bytes_for-2.result (omega (arith, s.rows, s.columns)) s.columns c.bytes_for-2.ensures in
    omega arith

pub returns-then-work-rows : goal.returns-then-work-rows
unfolding kept
returns-then-work-rows c =
    let a = c.args in
    let k = parts a.m a.n a.t a.support.now a.g.now in
    let z = verdict_accepted _ c.check_exchange-x.ensures c.in-Accepted.is in
    let e = ap (◌*◌ (k.m * k.t)) c.bytes_for.ensures in
    let f = ap (◌*◌ (k.m * k.t)) c.bytes_for-2.ensures in
    refuses (check_work (kept k) _ _ z (omega arith) (omega arith))

pub returns : goal.returns
unfolding kept
returns c =
    let a = c.args in
    let k = parts a.m a.n a.t a.support.now a.g.now in
    let r = c.check_exchange-x.ensures in
    let z = verdict_accepted _ r c.in-Accepted.is in
    let e = ap (◌*◌ (k.m * k.t)) c.bytes_for.ensures in
    let f = ap (◌*◌ (k.m * k.t)) c.bytes_for-2.ensures in
    r ∙ ap verdict_of (z ∙ check_none (kept k) _ _ z (omega arith) (omega arith))
