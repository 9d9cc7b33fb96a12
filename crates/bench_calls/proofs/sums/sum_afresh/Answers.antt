-- g's values are those of the sum. Assumes nothing.
use mathlib.Core.Path.{◌≡◌, refl, sym, ap, ◌∙◌}
use mathlib.Core.List.{List}
use Prim.Native.Nat.{ℕ}
use native.Mathlib.Omega.{arith}
use borrow.Author.Rules.{rules}
use lib.ListN.{length}
use lib.Seq.{length-take-le}
use Rattle.decoding.proofs.PowerSums.{values_points}
use Rattle.bench_calls.specs.Weights.{sum_by_squares}
use Rattle.bench_calls.proofs.sums.sum_afresh.Goals as goal

pub slice_bounds-v-end : goal.slice_bounds-v-end
slice_bounds-v-end c =
    let l : length c.values-v.result ≡ 8192 = search rules in
    omega (arith, c.requires.1)

pub slice_bounds-sum_by_squares-end : goal.slice_bounds-sum_by_squares-end
slice_bounds-sum_by_squares-end c =
    let l : length c.values-v.result ≡ 8192 = search rules in
    sym (length-take-le _ c.values-v.result (omega (arith, c.requires.1)))

pub returns : goal.returns
returns c =
    let a = c.args in
    c.sum_by_squares.ensures
    ∙ ap (λ (l : List ℕ). sum_by_squares a.m l a.p.now) (values_points a.m c.requires.0 a.g.now a.points.now refl c.requires.1 c.values-v.ensures)
