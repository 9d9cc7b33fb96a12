-- The numbers 1 to 3, then 4 to 6. Assumes nothing.
use mathlib.Core.Path.{sym, ap, ◌∙◌}
use native.Mathlib.Omega.{arith}
use Rattle.field.specs.Verdicts.{verdict_of}
use Rattle.field.proofs.Verdicts.{verdict_accepted, verdict_refused}
use Rattle.key.specs.Kept.{kept, parts}
use Rattle.key.proofs.Conditions.{kept_clear, kept-faults}
use Rattle.key.proofs.Roots.{Sized, head_sized, elements_later}
use Rattle.key.proofs.checks.check_but_roots.Goals as goal

pub returns-in_default : goal.returns-in_default
returns-in_default c = let e = c.head-x.ensures in e ∙ ap verdict_of (elements_later _ (verdict_refused _ e c.in_default.is))

pub slice_bounds-faults_but_roots-end : goal.slice_bounds-faults_but_roots-end
unfolding kept
slice_bounds-faults_but_roots-end c =
    let a = c.args in
    let k = parts a.m a.n a.t a.support.now a.g.now in
    let S : Sized (kept k) = head_sized (kept k) (verdict_accepted _ c.head-x.ensures c.in-Accepted.is) in
    sym S.support_length

pub slice_bounds-faults_but_roots-end-2 : goal.slice_bounds-faults_but_roots-end-2
unfolding kept
slice_bounds-faults_but_roots-end-2 c =
    let a = c.args in
    let k = parts a.m a.n a.t a.support.now a.g.now in
    let S : Sized (kept k) = head_sized (kept k) (verdict_accepted _ c.head-x.ensures c.in-Accepted.is) in
    sym S.g_length

pub faults_but_roots-requires : goal.faults_but_roots-requires
unfolding kept
faults_but_roots-requires c =
    let a = c.args in
    let k = parts a.m a.n a.t a.support.now a.g.now in
    let S : Sized (kept k) = head_sized (kept k) (verdict_accepted _ c.head-x.ensures c.in-Accepted.is) in
    (S.width, omega (arith, S.g_length, S.errors))

pub returns : goal.returns
returns c =
    let a = c.args in
    let k = parts a.m a.n a.t a.support.now a.g.now in
    let p = kept_clear k (verdict_accepted _ c.head-x.ensures c.in-Accepted.is) in
    c.faults_but_roots.ensures ∙ ap verdict_of (kept-faults k p.0 p.1 p.2)
