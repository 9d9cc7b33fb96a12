-- The loop's invariant: the first i numbers, and zeros behind them. Assumes nothing.
use mathlib.Core.Path.{◌≡◌, ap, ◌∙◌}
use mathlib.Core.List.{List}
use Prim.Native.Nat.{ℕ}
use native.Mathlib.Omega.{arith}
use lib.ListN.{length, take, get_or, set}
use borrow.Author.Rules.{rules}
use Rattle.bits.specs.Bits.{padded}
use Rattle.bits.proofs.Padded.{padded-start, padded-next}
use Rattle.point_sums.proofs.elements.first.Goals as goal

pub loop-i-init : goal.loop-i-init
loop-i-init c = (omega arith, padded-start 256 c.args.v)

pub loop-i-preserved : goal.loop-i-preserved
loop-i-preserved c =
    let l = c.loop-i in
    let v = c.args.v in
    let e : length v ≡ 256 = search rules in
    (omega arith, ap (λ (r : List ℕ). set r l.i (get_or v l.i 0)) l.invariant.1 ∙ padded-next 256 v l.i (omega arith) (omega arith))

pub returns : goal.returns
returns c =
    let l = c.loop-i in
    let a = c.args in
    let e : l.i ≡ a.k = omega arith in
    l.invariant.1 ∙ ap (λ (i : ℕ). padded 256 (take i a.v)) e
