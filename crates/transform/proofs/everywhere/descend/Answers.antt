-- `transform::everywhere::descend` meets its contract. Assumes nothing.
use mathlib.Core.Path.{◌≡◌, refl, sym, ap, ◌∙◌}
use Prim.Native.Nat.{ℕ, ◌+◌}
use native.Mathlib.Omega.{arith}
use lib.ListN.{length}
use Rattle.levels.proofs.TwoPowers.{two_below}
use Rattle.transform.specs.Values.{parts_of}
use Rattle.transform.proofs.AllLevels.{parts-length}
use Rattle.transform.proofs.Wholes.{split-length, split_small, parts_next}
use Rattle.transform.proofs.everywhere.descend.Goals as goal

pub loop-j-init : goal.loop-j-init
unfolding parts_of
loop-j-init c = (omega arith, refl, refl)

pub split_level-requires : goal.split_level-requires
split_level-requires c =
    let l = c.loop-j in
    let a = c.args in
    let eh = two_below _ c.two.ensures (omega arith) in
    let eq = two_below _ c.two-in-loop-j.ensures (omega arith) in
    let r = split_small a.m a.k l.j (omega arith) (omega arith) c.two.result c.two-in-loop-j.result eh eq (omega arith) in
    (c.requires.0, split-length a.m a.k l.j (omega arith) (omega arith) c.two.result c.two-in-loop-j.result eh eq (l.invariant.1 ∙ c.requires.3), r.0, r.1)

pub loop-j-preserved : goal.loop-j-preserved
loop-j-preserved c =
    let l = c.loop-j in
    let a = c.args in
    let e = parts_next a.m a.k l.j (omega arith) (omega arith) c.two.result c.two-in-loop-j.result (two_below _ c.two.ensures (omega arith))
    (two_below _ c.two-in-loop-j.ensures (omega arith)) a.tops a.c.now l.c _ c.requires.4 l.invariant.2 c.split_level.ensures in
    (omega arith, ap length e ∙ parts-length a.m a.k a.c.now c.requires.0 c.requires.3 (l.j + 1) (omega arith) ∙ sym c.requires.3, e)

pub returns : goal.returns
returns c =
    let l = c.loop-j in
    let a = c.args in
    let e : l.j ≡ a.k = omega arith in
    l.invariant.2 ∙ ap (λ (i : ℕ). parts_of a.m a.k i a.c.now) e
