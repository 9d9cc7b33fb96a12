-- The loop's invariant: the first x entries of both tables are written. Assumes nothing.
use mathlib.Core.Path.{refl, ap, ◌∙◌}
use Prim.Native.Nat.{min}
use native.Mathlib.Omega.{arith}
use lib.ListN.{length-set}
use Rattle.network.specs.Tables.{at}
use Rattle.control_passes.proofs.Tabs.{tab_set}
use Rattle.control_passes.proofs.double.Goals as goal

pub loop-x-init : goal.loop-x-init
loop-x-init c = (omega arith, refl, refl, (λ x h. absurd (omega arith)), λ x h. absurd (omega arith))

pub offset_bounds-p-y : goal.offset_bounds-p-y
offset_bounds-p-y c = let b = c.requires.by_index c.loop-x.x (omega arith) in omega arith

pub bounds-p-y : goal.bounds-p-y
bounds-p-y c = let b = c.requires.by_index c.loop-x.x (omega arith) in omega arith

pub offset_bounds-c-y : goal.offset_bounds-c-y
offset_bounds-c-y c = let b = c.requires.by_index c.loop-x.x (omega arith) in omega arith

pub bounds-c-y : goal.bounds-c-y
bounds-c-y c = let b = c.requires.by_index c.loop-x.x (omega arith) in omega arith

pub loop-x-preserved : goal.loop-x-preserved
loop-x-preserved c =
    let l = c.loop-x in
    let e = c.wide-y.ensures in (
      omega arith,
      simp length-set (omega arith),
      simp length-set (omega arith),
      tab_set l.p2 _ l.x _ (omega arith) (ap (at c.args.p.now) e) l.invariant.3,
      tab_set l.c2 _ l.x _ (omega arith) (c.lesser.ensures ∙ ap (λ y. min (at c.args.c.now l.x) (at c.args.c.now y)) e) l.invariant.4,
    )

pub returns : goal.returns
returns c = let l = c.loop-x in record { tab = (λ x h. l.invariant.3 x (omega arith)); tab_2 = λ x h. l.invariant.4 x (omega arith) }
