-- The loop's invariant: the first i bytes are copied, the others as they were. Assumes nothing.
use mathlib.Core.Path.{◌≡◌, refl, ap, ◌∙◌}
use mathlib.Core.List.{List, ◌++◌}
use Prim.Native.Nat.{ℕ}
use native.Mathlib.Omega.{arith}
use lib.ListN.{get_or, take, drop, set, length-set}
use Rattle.elimination.proofs.Flat.{copied_next}
use Rattle.elimination.proofs.copy.Goals as goal

pub loop-i-init : goal.loop-i-init
loop-i-init c = (omega arith, refl, refl)

pub loop-i-preserved : goal.loop-i-preserved
loop-i-preserved c =
    let l = c.loop-i in
    let a = c.args in (
      omega arith,
      length-set l.dst l.i (get_or a.src.now l.i 0) ∙ l.invariant.1,
      ap (λ (d : List ℕ). set d l.i (get_or a.src.now l.i 0)) l.invariant.2
          ∙ copied_next l.i a.src.now a.dst.now (omega arith) (omega arith),
    )

pub shape_of-dst : goal.shape_of-dst
shape_of-dst c = c.loop-i.invariant.1

pub returns : goal.returns
returns c =
    let l = c.loop-i in
    let a = c.args in
    let e : l.i ≡ a.n = omega arith in
    l.invariant.2 ∙ ap (λ (k : ℕ). take k a.src.now ++ drop k a.dst.now) e
