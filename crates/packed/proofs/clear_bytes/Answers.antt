-- The loop's invariant: the first i bytes are 0, the others as they were. Assumes nothing.
use mathlib.Core.Path.{◌≡◌, refl, sym, ap, ◌∙◌}
use mathlib.Core.List.{List, ◌++◌}
use Prim.Native.Nat.{ℕ}
use native.Mathlib.Omega.{arith}
use borrow.Author.Fill.{fill_none, fill_more}
use lib.ListN.{drop, set, replicate, length-set, length-replicate}
use Rattle.bits.specs.Bits.{over}
use Rattle.packed.proofs.clear_bytes.Goals as goal

pub loop-i-init : goal.loop-i-init
loop-i-init c = (omega arith, refl, fill_none _ 0)

pub loop-i-preserved : goal.loop-i-preserved
loop-i-preserved c =
    let l = c.loop-i in
    let a = c.args in (
      omega arith,
      length-set l.out l.i 0 ∙ l.invariant.1,
      ap (λ (d : List ℕ). set d l.i 0) l.invariant.2 ∙ fill_more l.i 0 a.out.now (omega arith),
    )

pub shape_of-out : goal.shape_of-out
shape_of-out c = c.loop-i.invariant.1

pub returns : goal.returns
unfolding over
returns c =
    let l = c.loop-i in
    let a = c.args in
    let e : l.i ≡ a.n = omega arith in
    l.invariant.2
    ∙ ap (λ (i : ℕ). replicate i 0 ++ drop i a.out.now) e
    ∙ ap (λ (k : ℕ). replicate a.n 0 ++ drop k a.out.now) (sym (length-replicate a.n 0))
