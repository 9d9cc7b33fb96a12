-- The loop's invariant: i numbers are put. Assumes nothing.
use mathlib.Core.Path.{◌≡◌, subst}
use Prim.Native.Nat.{ℕ}
use native.Mathlib.Omega.{arith}
use Rattle.bits.specs.Xor.{◌⊕◌}
use Rattle.row_tables.specs.Making.{Put}
use Rattle.row_tables.proofs.Making.{put_none, put_next}
use Rattle.row_tables.proofs.put_half.Goals as goal

pub loop-i-init : goal.loop-i-init
loop-i-init c = (omega arith, put_none _ _ _ _ _)

pub loop-i-preserved : goal.loop-i-preserved
unfolding ◌⊕◌
loop-i-preserved c =
    let l = c.loop-i in
    let a = c.args in
    (omega arith, put_next a.t.now a.j a.s a.at l.i a.p.now l.p l.invariant.1 (omega arith) (omega arith))

pub shape_of-p : goal.shape_of-p
shape_of-p c = c.loop-i.invariant.1.size

pub returns : goal.returns
returns c =
    let l = c.loop-i in
    let a = c.args in
    let e : l.i ≡ 64 = omega arith in
    subst (λ (k : ℕ). Put a.t.now a.j a.s a.at k a.p.now l.p) e l.invariant.1
