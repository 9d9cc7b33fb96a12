-- The loop's invariant: the first i numbers are done. Assumes nothing.
use mathlib.Core.Path.{refl, ap, ◌∙◌}
use mathlib.Core.List.{List}
use Prim.Native.Nat.{ℕ}
use native.Mathlib.Omega.{arith}
use lib.ListN.{get_or, set, length-set}
use Rattle.network_key.specs.Files.{reversed}
use Rattle.switching.proofs.Places.{mapped_start, mapped_next, mapped_all}
use Rattle.network_file.proofs.reverse_each.Goals as goal

pub loop-i-init : goal.loop-i-init
loop-i-init c = (omega arith, refl, mapped_start _ _)

pub loop-i-preserved : goal.loop-i-preserved
loop-i-preserved c =
    let l = c.loop-i in
    let a = c.args in (
      omega arith,
      length-set l.places _ _ ∙ l.invariant.1,
      ap (set l.places l.i) c.reversed.ensures
          ∙ ap (λ (p : List ℕ). set p l.i (reversed a.m (get_or p l.i 0))) l.invariant.2
          ∙ mapped_next (reversed a.m) a.places.now l.i (omega arith),
    )

pub shape_of-places : goal.shape_of-places
shape_of-places c = c.loop-i.invariant.1

pub returns : goal.returns
returns c = let l = c.loop-i in l.invariant.2 ∙ mapped_all _ _ l.i (omega arith)
