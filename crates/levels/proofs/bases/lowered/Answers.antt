-- `levels::bases::lowered` meets its contract. Assumes nothing.
use mathlib.Core.Path.{◌≡◌, ap, ◌∙◌}
use Prim.Native.Nat.{ℕ}
use native.Mathlib.Omega.{arith}
use lib.ListN.{length, get_or, length-set}
use borrow.Author.Rules.{rules}
use Rattle.bits.specs.Xor.{◌⊕◌}
use Rattle.field.specs.Field.{mul}
use Rattle.levels.proofs.Loops.{each_start, each_next, each_all}
use Rattle.levels.specs.Levels.{lowered}
use Rattle.levels.proofs.bases.lowered.Goals as goal

pub loop-i-init : goal.loop-i-init
loop-i-init c = (omega arith, search rules, each_start _ c.args.n c.args.t)

pub loop-i-preserved : goal.loop-i-preserved
unfolding ◌⊕◌
loop-i-preserved c =
    let l = c.loop-i in
    let a = c.args in
    let e : length a.t ≡ 16 = search rules in (
      omega arith,
      simp length-set l.invariant.1,
      each_next (λ y. mul a.m y y ⊕ y) a.n a.t l.i l.r _ l.invariant.2 (omega arith) (omega arith)
          (ap (λ (x : ℕ). x ⊕ get_or l.r l.i 0) c.times.ensures),
    )

pub returns : goal.returns
unfolding lowered
returns c = let a = c.args in c.loop-i.invariant.2 ∙ each_all _ a.n a.t c.loop-i.i (omega arith)
