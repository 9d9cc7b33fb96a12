-- The loop's invariant: k products are left, from r on. Assumes nothing.
use mathlib.Core.Path.{◌≡◌, refl, ap, ◌∙◌}
use Prim.Native.Nat.{ℕ, zero, suc, ◌-◌, ◌≤◌, ◌<◌}
use native.Mathlib.Nat.{not-suc-le-zero}
use native.Mathlib.Omega.{arith}
use Rattle.field.specs.Field.{mul}
use Rattle.bench_calls.specs.Chain.{chain}
use Rattle.bench_calls.proofs.bench_chain.Goals as goal

module _ (m a : ℕ) where
  turn : (k r : ℕ) → 0 < k → chain (k - 1) m a (mul m r a) ≡ chain k m a r
  unfolding chain
  turn zero r h = absurd (not-suc-le-zero h)
  turn (suc k) r h = let e : suc k - 1 ≡ k = omega arith in ap (λ (n : ℕ). chain n m a (mul m r a)) e

  last : (k r : ℕ) → k ≤ 0 → r ≡ chain k m a r
  unfolding chain
  last zero r h = refl
  last (suc k) r h = absurd (not-suc-le-zero h)

pub loop-k-preserved : goal.loop-k-preserved
loop-k-preserved c =
    let l = c.loop-k in
    let a = c.args in
    ap (chain (l.k - 1) a.m a.a) c.times-r.ensures ∙ turn a.m a.a l.k l.r c.loop-k-test.true ∙ l.invariant

pub returns : goal.returns
returns c =
    let l = c.loop-k in
    let a = c.args in
    last a.m a.a l.k l.r c.loop-k-test.false ∙ l.invariant
