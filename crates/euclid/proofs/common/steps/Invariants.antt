-- The loop's invariant: the steps that are left lead to the result. The measure da + 2·db falls with each step. Assumes nothing.
use Prim.Native.Nat.{◌+◌, ◌*◌, ◌≤◌}
use Rattle.euclid.specs.Euclid.{steps}
use Rattle.euclid.proofs.Steps.{Ahead}
use Rattle.euclid.proofs.Elements.{OfElements}
use Rattle.euclid.proofs.common.steps.Given as goal

abbrev pub invariant-loop-q : goal.invariant-loop-q
invariant-loop-q l = (l.q.da ≤ 129) × (l.q.db ≤ 129) × OfElements l.m l.q × Ahead l.m l.q (steps l.m (l.initial.q.da + 2 * l.initial.q.db) l.initial.q)

abbrev pub decreases-loop-q : goal.decreases-loop-q
decreases-loop-q l = l.q.da + 2 * l.q.db
