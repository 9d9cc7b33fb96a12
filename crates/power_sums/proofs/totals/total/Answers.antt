-- `power_sums::totals::total` meets its contract. Assumes nothing.
use mathlib.Core.Path.{◌≡◌, refl, sym, ap, ◌∙◌}
use Prim.Native.Nat.{ℕ}
use native.Mathlib.Omega.{arith}
use native.Mathlib.Numerals.{add-one}
use lib.ListN.{length, get_or}
use Rattle.power_sums.specs.Sums.{sum_to}
use lib.Bits.{bit_xor}
use Rattle.bits.specs.Xor.{◌⊕◌}
use Rattle.power_sums.proofs.totals.total.Goals as goal

pub loop-i-init : goal.loop-i-init
unfolding sum_to
loop-i-init c = (omega arith, refl)

pub loop-i-preserved : goal.loop-i-preserved
unfolding sum_to ◌⊕◌
loop-i-preserved c =
    let l = c.loop-i in
    let a = c.args in
    (omega arith, ap (λ (x : ℕ). bit_xor x (get_or a.l.now l.i 0)) l.invariant.1 ∙ ap (λ (n : ℕ). sum_to n (λ k. get_or a.l.now k 0)) (sym (add-one l.i)))

pub returns : goal.returns
returns c =
    let l = c.loop-i in
    let a = c.args in
    let e : l.i ≡ length a.l.now = omega arith in
    l.invariant.1 ∙ ap (λ (n : ℕ). sum_to n (λ k. get_or a.l.now k 0)) e
