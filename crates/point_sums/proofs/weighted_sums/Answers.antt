-- Either way gives the sums. Assumes nothing.
use mathlib.Core.Path.{ap, ◌∙◌}
use Prim.Native.Nat.{ℕ}
use native.Mathlib.Omega.{arith}
use Rattle.bits.specs.Bits.{padded}
use Rattle.field.proofs.Table.{modulus_none, modulus_some}
use Rattle.point_sums.specs.Weighted.{weighted_sums}
use Rattle.point_sums.proofs.Weighted.{all_none, all_width}
use Rattle.point_sums.proofs.weighted_sums.Goals as goal

pub returns-then-modulus-eq0 : goal.returns-then-modulus-eq0
returns-then-modulus-eq0 c =
    let a = c.args in
    all_none a.m a.k a.w.now a.points.now (modulus_none a.m c.modulus.ensures c.if-modulus-eq0.true)

pub dense-requires : goal.dense-requires
dense-requires c =
    let a = c.args in
    let v = modulus_some a.m c.modulus.ensures c.if-modulus-eq0.false in
    (v, omega arith)

pub over_elements-requires : goal.over_elements-requires
over_elements-requires c =
    let a = c.args in
    let v = modulus_some a.m c.modulus.ensures c.if-modulus-eq0.false in
    (v, c.dense.ensures c.if-dense.true, omega arith)

pub returns-then-dense : goal.returns-then-dense
returns-then-dense c =
    let a = c.args in
    let v = modulus_some a.m c.modulus.ensures c.if-modulus-eq0.false in
    c.over_elements.ensures ∙ ap (λ (n : ℕ). padded 256 (weighted_sums a.m n a.w.now a.points.now)) c.smaller-t.ensures
    ∙ all_width a.m a.k a.w.now a.points.now v

pub over_points-requires : goal.over_points-requires
over_points-requires c =
    let a = c.args in
    let v = modulus_some a.m c.modulus.ensures c.if-modulus-eq0.false in
    (v, omega arith)

pub returns : goal.returns
returns c =
    let a = c.args in
    let v = modulus_some a.m c.modulus.ensures c.if-modulus-eq0.false in
    c.over_points.ensures ∙ ap (λ (n : ℕ). padded 256 (weighted_sums a.m n a.w.now a.points.now)) c.smaller-t.ensures
    ∙ all_width a.m a.k a.w.now a.points.now v
