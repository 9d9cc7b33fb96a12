-- `transform::everywhere::depth` meets its contract. Assumes nothing.
use mathlib.Core.Path.{◌≡◌, refl, sym, ap, ap₂, ◌∙◌}
use Prim.Native.Nat.{ℕ, suc, ◌+◌, ◌^◌, ◌≤◌, ◌<◌}
use native.Mathlib.Omega.{arith}
use lib.Pow.{pow_mono}
use native.Mathlib.Nat.{pow-suc}
use native.Mathlib.Decide.{dec_le}
use lib.Pow.{pow_pos}
use Rattle.transform.proofs.everywhere.depth.Goals as goal

below : (k j : ℕ) → 2 ^ k < 2 ^ j → k + 1 ≤ j
below k j h = elim (dec_le j k) [ yes l ↦ absurd (omega (arith, pow_mono l)) | no l ↦ omega arith ]

pub loop-w-init : goal.loop-w-init
loop-w-init c = (refl, omega arith, λ j h. omega arith)

pub loop-w-smaller : goal.loop-w-smaller
loop-w-smaller c = omega (arith, pow_pos c.loop-w.k)

pub loop-w-preserved : goal.loop-w-preserved
loop-w-preserved c =
    let l = c.loop-w in
    let e : l.k + 1 ≡ suc l.k = omega arith in
    let k : (j : ℕ) → c.args.n ≤ 2 ^ j → l.k + 1 ≤ j = λ j h. below l.k j (omega (arith, h)) in
    (ap₂ ◌+◌ l.invariant.0 l.invariant.0 ∙ omega (arith, pow-suc 2 l.k) ∙ ap (λ (j : ℕ). 2 ^ j) (sym e), k 9 (omega arith), k)

pub returns : goal.returns
returns c = (omega arith, c.loop-w.invariant.2)
