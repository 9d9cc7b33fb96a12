-- The loop's invariant: the first i places are numbered. Assumes nothing.
use mathlib.Core.Path.{refl, ap, ◌∙◌}
use mathlib.Core.List.{List}
use Prim.Native.Nat.{ℕ}
use native.Mathlib.Omega.{arith}
use lib.ListN.{set, length-set}
use Rattle.switching.proofs.Places.{numbered_start, numbered_next, numbered_all}
use Rattle.switching.proofs.positions.Goals as goal

pub loop-i-init : goal.loop-i-init
loop-i-init c = (omega arith, refl, numbered_start _)

pub loop-i-preserved : goal.loop-i-preserved
loop-i-preserved c =
    let l = c.loop-i in
    let s = c.args.places.now in (
      omega arith,
      length-set l.places _ _ ∙ l.invariant.1,
      ap (λ (p : List ℕ). set p l.i l.i) l.invariant.2 ∙ numbered_next s l.i (omega arith),
    )

pub shape_of-places : goal.shape_of-places
shape_of-places c = c.loop-i.invariant.1

pub returns : goal.returns
returns c = let l = c.loop-i in l.invariant.2 ∙ numbered_all _ l.i (omega arith) (omega arith)
