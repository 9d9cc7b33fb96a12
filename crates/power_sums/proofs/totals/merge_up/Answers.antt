-- `power_sums::totals::merge_up` meets its contract. Assumes nothing.
use mathlib.Core.Path.{◌≡◌, refl, ap, ◌∙◌}
use Prim.Native.Nat.{ℕ, ◌-◌}
use native.Mathlib.Omega.{arith}
use lib.ListN.{get_or}
use Rattle.levels.proofs.TwoPowers.{two_below}
use Rattle.power_sums.specs.Sums.{merges_of}
use Rattle.power_sums.proofs.Summing.{merge_length, merge_small, merges_next, merged-length}
use Rattle.power_sums.proofs.totals.merge_up.Goals as goal

pub loop-j-init : goal.loop-j-init
loop-j-init c = (omega arith, refl, refl)

pub merge_level-requires : goal.merge_level-requires
merge_level-requires c =
    let l = c.loop-j in
    let a = c.args in
    let eh = two_below _ c.two.ensures (omega arith) in
    let eq = two_below _ c.two-in-loop-j.ensures (omega arith) in
    let r = merge_small a.m a.k l.j c.two.result c.two-in-loop-j.result (omega arith) (omega arith) (omega arith) eh eq c.requires.2 in
    (c.requires.0, merge_length a.m a.k l.j c.two.result c.two-in-loop-j.result (omega arith) (omega arith) (omega arith) eh eq (l.invariant.1 ∙ c.requires.3), r.0, r.1)

pub loop-j-preserved : goal.loop-j-preserved
loop-j-preserved c =
    let l = c.loop-j in
    let a = c.args in
    let eh = two_below _ c.two.ensures (omega arith) in
    let eq = two_below _ c.two-in-loop-j.ensures (omega arith) in (
      omega arith,
      merged-length a.m a.k l.j c.two.result c.two-in-loop-j.result (omega arith) (omega arith) (omega arith) eh eq (get_or a.t (l.j - 1) 0) l.c _ (l.invariant.1 ∙ c.requires.3) c.merge_level.ensures ∙ l.invariant.1,
      merges_next a.m a.k l.j c.two.result c.two-in-loop-j.result (omega arith) (omega arith) (omega arith) eh eq a.t l.c _ c.requires.4 c.merge_level.ensures ∙ l.invariant.2,
    )

pub returns : goal.returns
unfolding merges_of
returns c =
    let l = c.loop-j in
    let a = c.args in
    let e : 0 ≡ l.j = omega arith in
    ap (λ (i : ℕ). merges_of a.m a.k i l.c) e ∙ l.invariant.2
