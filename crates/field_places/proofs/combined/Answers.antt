-- The loop's invariant: the sum over the first j digits. Assumes nothing.
use mathlib.Core.Path.{◌≡◌, ap, ap₂, ◌∙◌}
use Prim.Native.Nat.{ℕ, ◌+◌, ◌*◌}
use native.Mathlib.Omega.{arith}
use lib.ListN.{get_or}
use Rattle.bits.specs.Xor.{◌⊕◌}
use Rattle.field.specs.PointTable.{digit_sum}
use Rattle.field.proofs.PointTable.{digit_sum_none, digit_sum-next, combination-digits}
use Rattle.field_places.proofs.combined.Goals as goal

pub loop-j-init : goal.loop-j-init
loop-j-init c = (omega arith, digit_sum_none _ _)

pub loop-j-preserved : goal.loop-j-preserved
unfolding ◌⊕◌
loop-j-preserved c =
    let l = c.loop-j in
    let a = c.args in
    let v : ℕ → ℕ = λ j. get_or a.t.now (64 * j + a.i) 0 in
    (omega arith, ap₂ ◌⊕◌ l.invariant.1 c.selected-s.ensures ∙ digit_sum-next v l.j a.r)

pub returns : goal.returns
returns c =
    let l = c.loop-j in
    let a = c.args in
    let e : l.j ≡ 13 = omega arith in
    l.invariant.1 ∙ ap (λ (k : ℕ). digit_sum k (λ j. get_or a.t.now (64 * j + a.i) 0) a.r) e
    ∙ combination-digits a.t.now a.i a.r
