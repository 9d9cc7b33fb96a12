-- The loop's invariant: the sum over the first j digits. Assumes nothing.
use mathlib.Core.Path.{◌≡◌, ap, ap₂, ◌∙◌}
use Prim.Native.Nat.{ℕ, ◌*◌, ◌/◌, ◌^◌, ◌<◌}
use native.Mathlib.Omega.{arith}
use lib.Bits.{and_mask}
use lib.ListN.{get_or}
use Rattle.bits.specs.Xor.{◌⊕◌}
use Rattle.field.specs.PointTable.{digit_sum}
use Rattle.field.proofs.Machine.{masked_lt}
use Rattle.field.proofs.PointTable.{digit_sum_none, digit_sum-next}
use Rattle.register.proofs.combined.Goals as goal

pub loop-j-init : goal.loop-j-init
loop-j-init c = (omega arith, digit_sum_none _ _)

pub overflow_mul-s : goal.overflow_mul-s
overflow_mul-s c =
    let a = c.args in
    let h : c.loop-j.j < 13 = omega arith in
    record { fits = masked_lt (a.x / 2 ^ c.loop-j.j) (c.requires c.loop-j.j h) }

pub loop-j-preserved : goal.loop-j-preserved
unfolding ◌⊕◌
loop-j-preserved c =
    let l = c.loop-j in
    let a = c.args in
    let v : ℕ → ℕ = λ j. get_or a.t.now j 0 in (
      omega arith,
      ap₂ ◌⊕◌ l.invariant.1 (ap (λ (d : ℕ). d * v l.j) (and_mask (a.x / 2 ^ l.j) 1)) ∙ digit_sum-next v l.j a.x,
    )

pub returns : goal.returns
returns c =
    let l = c.loop-j in
    let a = c.args in
    let e : l.j ≡ 13 = omega arith in
    l.invariant.1 ∙ ap (λ (k : ℕ). digit_sum k (λ j. get_or a.t.now j 0) a.x) e
