-- The loop's invariant: r is the value of the coefficients from k on. Assumes nothing.
use mathlib.Core.Path.{◌≡◌, sym, ap, ◌∙◌}
use mathlib.Core.List.{List}
use Prim.Native.Nat.{ℕ, suc, ◌-◌, ◌≤◌, ◌<◌}
use native.Mathlib.Omega.{arith}
use lib.ListN.{length, drop, get_or}
use lib.Seq.{drop-length, drop-cons}
use Rattle.bits.specs.Xor.{◌⊕◌}
use Rattle.field.specs.Field.{mul}
use Rattle.field.specs.Poly.{value}
use Rattle.field.proofs.Arrays.{value-nil, value-cons}
use Rattle.poly.proofs.horner.value.Goals as goal

module _ (m : ℕ) (p : List ℕ) (a : ℕ) where
  start : 0 ≡ value m (drop (length p) p) a
  start = sym (ap (λ (l : List ℕ). value m l a) (drop-length p) ∙ value-nil m a)

  next : (k : ℕ) {r x : ℕ} → 0 < k → k ≤ length p → r ≡ value m (drop k p) a → x ≡ mul m a r
      → get_or p (k - 1) 0 ⊕ x ≡ value m (drop (k - 1) p) a
  next k {r} h b e q =
      let s : k ≡ suc (k - 1) = omega arith in
      ap (λ (y : ℕ). get_or p (k - 1) 0 ⊕ y) (q ∙ ap (mul m a) (e ∙ ap (λ (i : ℕ). value m (drop i p) a) s))
      ∙ sym (ap (λ (l : List ℕ). value m l a) (drop-cons p (k - 1) 0 (omega arith)) ∙ value-cons m (get_or p (k - 1) 0) _ a)

  whole : (k : ℕ) {r : ℕ} → k ≤ 0 → r ≡ value m (drop k p) a → r ≡ value m p a
  whole k h e = let z : k ≡ 0 = omega arith in e ∙ ap (λ (i : ℕ). value m (drop i p) a) z

pub loop-k-init : goal.loop-k-init
loop-k-init c = let a = c.args in (omega arith, start a.m a.p.now a.a)

pub loop-k-preserved : goal.loop-k-preserved
unfolding ◌⊕◌
loop-k-preserved c =
    let l = c.loop-k in
    let a = c.args in
    (omega arith, next a.m a.p.now a.a l.k (omega arith) l.invariant.0 l.invariant.1 c.times.ensures)

pub returns : goal.returns
returns c = let a = c.args in whole a.m a.p.now a.a c.loop-k.k c.loop-k-test.false c.loop-k.invariant.1
