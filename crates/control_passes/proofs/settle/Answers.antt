-- The loop's invariant: the first x numbers are settled, the others as they were. Assumes nothing.
use mathlib.Core.Path.{refl, ap, ap₂, ◌∙◌}
use Prim.Native.Nat.{◌*◌, ◌/◌, ◌%◌}
use native.Mathlib.Omega.{arith}
use lib.ListN.{length-set}
use lib.Seq.{get_or-set_other}
use Rattle.network.specs.Network.{turn, pairs}
use Rattle.network.specs.Tables.{at}
use Rattle.control_passes.proofs.Tabs.{tab_set}
use Rattle.control_passes.proofs.settle.Goals as goal

pub loop-x-init : goal.loop-x-init
loop-x-init c = (omega arith, refl, (λ x h. absurd (omega arith)), λ k h. refl)

pub offset_bounds-c-y : goal.offset_bounds-c-y
offset_bounds-c-y c =
    let e = c.wide-y.ensures ∙ c.loop-x.invariant.3 c.loop-x.x (omega arith) in
    let b = c.requires.by_index c.loop-x.x (omega arith) in omega arith

pub bounds-c-y : goal.bounds-c-y
bounds-c-y c =
    let e = c.wide-y.ensures ∙ c.loop-x.invariant.3 c.loop-x.x (omega arith) in
    let b = c.requires.by_index c.loop-x.x (omega arith) in omega arith

pub flip-requires : goal.flip-requires
flip-requires c =
    let e = c.wide-y.ensures ∙ c.loop-x.invariant.3 c.loop-x.x (omega arith) in
    let b = c.requires.by_index c.loop-x.x (omega arith) in omega arith

pub overflow_cast-pi : goal.overflow_cast-pi
overflow_cast-pi c =
    let e = c.wide-y.ensures ∙ c.loop-x.invariant.3 c.loop-x.x (omega arith) in
    let b = c.requires.by_index c.loop-x.x (omega arith) in omega arith

pub loop-x-preserved : goal.loop-x-preserved
unfolding pairs
loop-x-preserved c =
    let l = c.loop-x in
    let e = c.wide-y.ensures ∙ l.invariant.3 l.x (omega arith) in (
      omega arith,
      simp length-set (omega arith),
      tab_set l.pi (λ x. pairs (λ j. at c.args.c.now (2 * j) % 2) (at c.args.pi.now x)) l.x _ (omega arith)
          (c.flip.ensures ∙ ap₂ turn (ap (◌% 2) (c.wide-f.ensures ∙ ap (λ y. at c.args.c.now (2 * (y / 2))) e)) e) l.invariant.2,
      λ k h. get_or-set_other l.pi l.x k _ 0 (omega arith) ∙ l.invariant.3 k (omega arith),
    )

pub returns : goal.returns
returns c = λ x h. c.loop-x.invariant.2 x (omega arith)
