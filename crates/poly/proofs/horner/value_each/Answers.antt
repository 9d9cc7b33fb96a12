-- The loop's invariant: the values at the first places, up to `at`. Assumes nothing.
use mathlib.Core.Path.{◌≡◌, refl, sym, ap, ◌∙◌}
use Prim.Native.Nat.{◌-◌}
use native.Mathlib.Omega.{arith}
use lib.ListN.{length}
use borrow.Rule.Slice.PartMut.{mid_of, mid_len}
use Rattle.field.proofs.Table.{modulus_none, modulus_some}
use Rattle.poly.proofs.AtPoints.{length_values_to, to_start, to_next, to_all, to_none}
use Rattle.poly.proofs.horner.value_each.Goals as goal

pub returns-then-modulus-eq0 : goal.returns-then-modulus-eq0
returns-then-modulus-eq0 c =
    let a = c.args in
    to_none a.m a.g.now a.r.now a.points.now (modulus_none _ c.modulus.ensures c.if-modulus-eq0.true)

pub loop-at-init : goal.loop-at-init
loop-at-init c =
    let a = c.args in
    (omega arith, refl, to_start a.m a.g.now a.r.now a.points.now)

pub value_block-requires : goal.value_block-requires
value_block-requires c =
    let l = c.loop-at in
    let a = c.args in
    let n = c.smaller-e.result in
    let i : length (mid_of l.at (n - l.at) l.r) ≡ n - l.at = mid_len l.at n l.r (omega arith) in
    let j : length (mid_of l.at (n - l.at) a.points.now) ≡ n - l.at = mid_len l.at n a.points.now (omega arith) in
    (modulus_some _ c.modulus.ensures c.if-modulus-eq0.false, i ∙ sym j, omega arith)

pub loop-at-preserved : goal.loop-at-preserved
loop-at-preserved c =
    let l = c.loop-at in
    let a = c.args in
    let n = c.smaller-e.result in
    let e = to_next a.m a.g.now a.r.now a.points.now l.at n l.r _ (omega arith) (omega arith) l.invariant.2 c.value_block.ensures in
    (omega arith, ap length e ∙ length_values_to a.m a.g.now a.r.now a.points.now n, e)

pub returns : goal.returns
returns c =
    let l = c.loop-at in
    let a = c.args in
    l.invariant.2 ∙ to_all a.m a.g.now a.r.now a.points.now (modulus_some _ c.modulus.ensures c.if-modulus-eq0.false) l.at (λ h. omega arith)
