-- The loop's invariant: the steps that are left lead to the result. The measure da + 2·db falls with each step. Assumes nothing.
use mathlib.Core.Path.{sym, subst}
use Prim.Native.Nat.{◌+◌, ◌*◌, ◌≤◌, ◌<◌}
use Rattle.euclid.specs.Euclid.{steps}
use Rattle.euclid.proofs.Steps.{step_less, step_fit, Ahead, ahead_start, ahead_next, ahead_end}
use Rattle.euclid.proofs.Elements.{OfElements, step-elements}
use Rattle.euclid.proofs.common.steps.Goals as goal

pub loop-q-init : goal.loop-q-init
loop-q-init c = (c.requires.1, c.requires.2, (c.requires.3, c.requires.4), ahead_start _ c.args.p)

pub step-q-requires : goal.step-q-requires
step-q-requires c = (c.requires.0, c.loop-q-test.true, c.loop-q.invariant.0, c.loop-q.invariant.1, c.loop-q.invariant.2.1)

pub loop-q-smaller : goal.loop-q-smaller
loop-q-smaller c =
    let q = c.loop-q.q in
    subst (λ r. r.da + 2 * r.db < q.da + 2 * q.db) (sym c.step-q.ensures) (step_less _ q c.loop-q-test.true)

pub loop-q-preserved : goal.loop-q-preserved
loop-q-preserved c =
    let l = c.loop-q in
    let a = c.args in
    let m = a.m in
    let last = steps m (a.p.da + 2 * a.p.db) a.p in
    let f = step_fit m l.q l.invariant.0 l.invariant.1 in
    subst (λ r. (r.da ≤ 129) × (r.db ≤ 129) × OfElements m r × Ahead m r last) (sym c.step-q.ensures)
    (f.0, f.1, step-elements m l.q l.invariant.2, ahead_next m l.q last c.loop-q-test.true l.invariant.3)

pub returns : goal.returns
returns c = let l = c.loop-q in ahead_end _ l.q _ c.loop-q-test.false l.invariant.3
