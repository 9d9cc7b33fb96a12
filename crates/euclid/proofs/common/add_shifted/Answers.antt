-- The loop's invariant: the coefficients below k are done. Assumes nothing.
use mathlib.Core.Path.{◌≡◌, sym, ap, ◌∙◌}
use mathlib.Core.List.{List}
use Prim.Native.Nat.{ℕ, ◌-◌}
use native.Mathlib.Omega.{arith}
use borrow.Author.Rules.{rules}
use lib.ListN.{length, get_or, set}
use Rattle.bits.specs.Xor.{◌⊕◌}
use Rattle.euclid.specs.Euclid.{added}
use Rattle.euclid.proofs.Coefficients.{added_none, added-step}
use Rattle.euclid.proofs.common.add_shifted.Goals as goal

pub loop-k-init : goal.loop-k-init
loop-k-init c = (omega arith, c.requires.0, sym (added_none _ _ _))

pub loop-k-preserved : goal.loop-k-preserved
unfolding ◌⊕◌
loop-k-preserved c =
    let l = c.loop-k in
    let a = c.args in
    let b = a.b in
    let size : length a.a ≡ 129 = search rules in
    let size-b : length b ≡ 129 = search rules in (
      omega arith,
      omega arith,
      ap (λ (r : List ℕ). set r l.k (get_or r l.k 0 ⊕ get_or b (l.k - a.y) 0)) l.invariant.2
          ∙ added-step a.y a.a b l.k l.invariant.0 (omega arith) (omega arith),
    )

pub returns : goal.returns
returns c =
    let l = c.loop-k in
    let a = c.args in
    let e : l.k ≡ a.n = omega arith in
    l.invariant.2 ∙ ap (λ (k : ℕ). added a.y k a.a a.b) e
