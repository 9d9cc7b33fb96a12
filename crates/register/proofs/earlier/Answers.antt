-- The loop's invariant: the places from 1 to i - 1 are done. Assumes nothing.
use Prim.Native.Nat.{ℕ}
use native.Mathlib.Omega.{arith}
use lib.ListN.{length-set, length-replicate}
use Rattle.poly.proofs.Steps.{earlier_step}
use Rattle.register.proofs.earlier.Goals as goal

pub loop-i-init : goal.loop-i-init
loop-i-init c = (omega arith, length-replicate {A = ℕ} 257 0, λ k a b. absurd (omega arith))

pub loop-i-preserved : goal.loop-i-preserved
loop-i-preserved c =
    let l = c.loop-i in
    let a = c.args in
    (omega arith, simp length-set l.invariant.1, earlier_step a.s.now a.n l.i l.w (omega arith) l.invariant.2)

pub returns : goal.returns
returns c k a b = c.loop-i.invariant.2 k a (omega arith)
