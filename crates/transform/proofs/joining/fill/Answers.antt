-- `transform::joining::fill` meets its contract. Assumes nothing.
use mathlib.Core.Path.{refl, sym, ap₂, ◌∙◌}
use Prim.Native.Nat.{ℕ}
use native.Mathlib.Omega.{arith}
use mathlib.Core.List.{List}
use lib.ListN.{length, set, length-set}
use Rattle.bits.proofs.Padded.{over-start, over-next}
use lib.ListN.{replicate}
use Rattle.transform.proofs.Loops.{fill_all}
use lib.ListN.{length-replicate, get_or-replicate}
use Rattle.transform.proofs.joining.fill.Goals as goal

pub loop-i-init : goal.loop-i-init
loop-i-init c = (omega arith, refl, over-start (replicate (length c.args.d.now) c.args.x) c.args.d.now)

pub loop-i-preserved : goal.loop-i-preserved
loop-i-preserved c =
    let l = c.loop-i in
    let a = c.args in
    let n : ℕ = length a.d.now in (
      omega arith,
      simp length-set (omega arith),
      ap₂ (λ (r : List ℕ) (v : ℕ). set r l.i v) l.invariant.2 (sym (get_or-replicate n l.i a.x 0 (omega arith)))
          ∙ over-next l.i (replicate n a.x) a.d.now (omega (arith, length-replicate {A = ℕ} n a.x)) (omega arith),
    )

pub returns : goal.returns
returns c = let a = c.args in c.loop-i.invariant.2 ∙ fill_all a.x a.d.now c.loop-i.i (omega arith)
