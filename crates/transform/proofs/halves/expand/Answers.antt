-- `transform::halves::expand` meets its contract. Assumes nothing.
use mathlib.Core.Path.{◌≡◌, refl, ap, ◌∙◌}
use Prim.Native.Nat.{ℕ, ◌-◌}
use native.Mathlib.Omega.{arith}
use lib.ListN.{length}
use Rattle.transform.proofs.Loops.{expanded_from}
use Rattle.transform.proofs.Loops.{expand_start, expand_next, expand_all, length_expanded_from}
use Rattle.transform.proofs.halves.expand.Goals as goal

pub loop-i-init : goal.loop-i-init
loop-i-init c = (omega arith, refl, expand_start c.args.c.now)

pub loop-i-preserved : goal.loop-i-preserved
loop-i-preserved c =
    let l = c.loop-i in
    let a = c.args in
    let z = expand_next l.i a.c.now l.c _ l.invariant.2 (omega arith) (omega arith) c.pair_up.ensures in
    (omega arith, ap length z ∙ length_expanded_from (l.i - 1) a.c.now, z)

pub returns : goal.returns
returns c =
    let l = c.loop-i in
    let a = c.args in
    let e : l.i ≡ 0 = omega arith in
    l.invariant.2 ∙ ap (λ (i : ℕ). expanded_from i a.c.now) e ∙ expand_all a.c.now
