-- The loop's invariant: i numbers are 0. Assumes nothing.
use mathlib.Core.Path.{◌≡◌, subst}
use Prim.Native.Nat.{ℕ}
use native.Mathlib.Omega.{arith}
use Rattle.row_tables.specs.Making.{Zeroed}
use Rattle.row_tables.proofs.Making.{zeroed_none, zeroed_next}
use Rattle.row_tables.proofs.zero_half.Goals as goal

pub loop-i-init : goal.loop-i-init
loop-i-init c = (omega arith, zeroed_none _ _)

pub loop-i-preserved : goal.loop-i-preserved
loop-i-preserved c =
    let l = c.loop-i in
    let a = c.args in
    (omega arith, zeroed_next a.h l.i a.p.now l.p l.invariant.1 (omega arith))

pub shape_of-p : goal.shape_of-p
shape_of-p c = c.loop-i.invariant.1.size

pub returns : goal.returns
returns c =
    let l = c.loop-i in
    let a = c.args in
    let e : l.i ≡ 64 = omega arith in
    subst (λ (k : ℕ). Zeroed a.h k a.p.now l.p) e l.invariant.1
