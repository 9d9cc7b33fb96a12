-- The loop's invariant: the first i coefficients are copied. Assumes nothing.
use mathlib.Core.Path.{refl, ap, ◌∙◌}
use mathlib.Core.List.{List}
use Prim.Native.Nat.{ℕ}
use native.Mathlib.Omega.{arith}
use lib.ListN.{get_or, set, length-set}
use Rattle.register.proofs.Loops.{copied_none, copied_next, copied_all}
use Rattle.register.proofs.copy.Goals as goal

pub loop-i-init : goal.loop-i-init
loop-i-init c = (omega arith, refl, copied_none _ _)

pub loop-i-preserved : goal.loop-i-preserved
loop-i-preserved c =
    let l = c.loop-i in
    let a = c.args in (
      omega arith,
      length-set l.b _ _ ∙ l.invariant.1,
      ap (λ (b : List ℕ). set b l.i (get_or a.c.now l.i 0)) l.invariant.2 ∙ copied_next a.b.now a.c.now l.i (omega arith) (omega arith),
    )

pub shape_of-b : goal.shape_of-b
shape_of-b c = c.loop-i.invariant.1

pub returns : goal.returns
returns c =
    let l = c.loop-i in
    let a = c.args in
    l.invariant.2 ∙ copied_all a.b.now a.c.now l.i (omega arith) (omega arith)
