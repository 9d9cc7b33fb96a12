-- The loop's invariant: w is the weight of the first i bits. Assumes nothing.
use mathlib.Core.Path.{◌≡◌, refl, sym, ap, ap₂, ◌∙◌}
use mathlib.Core.List.{List}
use Prim.Native.Nat.{ℕ, ◌+◌, ◌<◌}
use native.Mathlib.Omega.{arith}
use Rattle.bits.specs.Bits.{weight, unpack, ones, from}
use Rattle.bits.proofs.Bits.{bit_lt}
use Rattle.bits.proofs.Ones.{weight-le, weight-suc, weight_past}
use Rattle.bits.proofs.weight.Goals as goal

pub loop-i-init : goal.loop-i-init
unfolding weight unpack ones from
loop-i-init c = (omega arith, refl)

pub returns-then-row-i : goal.returns-then-row-i
returns-then-row-i c =
    let l = c.loop-i in
    let a = c.args in
    l.invariant.1 ∙ sym (weight_past l.i a.n a.row.now (omega arith) (omega arith))

pub overflow_add-w : goal.overflow_add-w
overflow_add-w c =
    let i : ℕ = c.loop-i.i in
    let s : List ℕ = c.args.row.now in
    let b : c.bit_at.result < 2 = rw c.bit_at.ensures (bit_lt _ _) in
    omega (arith, weight-le i s)

pub loop-i-preserved : goal.loop-i-preserved
loop-i-preserved c =
    let l = c.loop-i in
    let a = c.args in
    (omega arith, ap₂ ◌+◌ l.invariant.1 (c.wide-w.ensures ∙ c.bit_at.ensures) ∙ sym (weight-suc l.i a.row.now))

pub returns : goal.returns
returns c =
    let l = c.loop-i in
    let a = c.args in
    let e : l.i ≡ a.n = omega arith in
    l.invariant.1 ∙ ap (λ (k : ℕ). weight k a.row.now) e
