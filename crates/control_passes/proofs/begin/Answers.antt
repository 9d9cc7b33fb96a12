-- The loop's invariant: the first x entries of both tables are written. Assumes nothing.
use mathlib.Core.Path.{refl, ap, ◌∙◌}
use native.Mathlib.Omega.{arith}
use lib.ListN.{length-set}
use Rattle.network.specs.Network.{turn}
use Rattle.network.specs.Tables.{at}
use Rattle.control_passes.proofs.Tabs.{tab_set}
use Rattle.control_passes.proofs.begin.Goals as goal

pub loop-x-init : goal.loop-x-init
loop-x-init c = (omega arith, omega arith, omega arith, (λ x h. absurd (omega arith)), λ x h. absurd (omega arith))

pub flip-z-requires : goal.flip-z-requires
flip-z-requires c =
    let w = c.wide.ensures ∙ ap (at c.args.inv.now) c.flip-y.ensures in
    let b = c.requires.by_index (turn 1 c.loop-x.x) (omega arith) in omega arith

pub offset_bounds-pi-z : goal.offset_bounds-pi-z
offset_bounds-pi-z c =
    let w = c.wide.ensures ∙ ap (at c.args.inv.now) c.flip-y.ensures in
    let b = c.requires.by_index (turn 1 c.loop-x.x) (omega arith) in omega arith

pub bounds-pi-z : goal.bounds-pi-z
bounds-pi-z c =
    let w = c.wide.ensures ∙ ap (at c.args.inv.now) c.flip-y.ensures in
    let b = c.requires.by_index (turn 1 c.loop-x.x) (omega arith) in omega arith

pub loop-x-preserved : goal.loop-x-preserved
loop-x-preserved c =
    let w = c.wide.ensures ∙ ap (at c.args.inv.now) c.flip-y.ensures in
    let l = c.loop-x in (
      omega arith,
      simp length-set (omega arith),
      simp length-set (omega arith),
      tab_set l.p _ l.x _ (omega arith) (ap (at c.args.pi.now) (c.flip-z.ensures ∙ ap (turn 1) w)) l.invariant.3,
      tab_set l.c (λ x. x) l.x l.x (omega arith) refl l.invariant.4,
    )

pub returns : goal.returns
returns c = let l = c.loop-x in record { tab = (λ x h. l.invariant.3 x (omega arith)); tab_2 = λ x h. l.invariant.4 x (omega arith) }
