-- The loop's invariant: the first i numbers are read, the others as they were. Assumes nothing.
use mathlib.Core.Path.{◌≡◌, refl, ap, ap₂, ◌∙◌}
use mathlib.Core.List.{List, ◌++◌}
use Prim.Native.Nat.{ℕ}
use native.Mathlib.Omega.{arith}
use lib.ListN.{drop, set, length-set}
use Rattle.key.specs.Keys.{elements}
use Rattle.key.proofs.Filled.{filled-start, filled_next}
use Rattle.key_file.proofs.fill.Goals as goal

pub loop-i-init : goal.loop-i-init
loop-i-init c = let a = c.args in (omega arith, refl, filled-start a.file.now a.at a.out.now)

pub loop-i-preserved : goal.loop-i-preserved
loop-i-preserved c =
    let l = c.loop-i in
    let a = c.args in (
      omega arith,
      length-set l.out l.i c.pair.result ∙ l.invariant.1,
      ap₂ (λ (d : List ℕ) (v : ℕ). set d l.i v) l.invariant.2 c.pair.ensures
          ∙ filled_next a.file.now a.at a.out.now l.i (omega arith),
    )

pub shape_of-out : goal.shape_of-out
shape_of-out c = c.loop-i.invariant.1

pub returns : goal.returns
returns c =
    let l = c.loop-i in
    let a = c.args in
    let e : l.i ≡ a.n = omega arith in
    l.invariant.2 ∙ ap (λ (i : ℕ). elements a.file.now a.at i ++ drop i a.out.now) e
