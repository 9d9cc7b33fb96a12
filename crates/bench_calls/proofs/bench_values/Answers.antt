-- `bench_calls::bench_values` meets its contract. Assumes nothing.
use mathlib.Core.Path.{sym, ap}
use mathlib.Core.List.{List}
use Prim.Native.Nat.{ℕ}
use native.Mathlib.Omega.{arith}
use lib.ListN.{get_or, get_or-eq_default}
use Rattle.poly.specs.Polynomials.{values_at}
use Rattle.poly.proofs.AtPoints.{length_values}
use Rattle.bench_calls.proofs.bench_values.Goals as goal

pub returns-then-i-ge8192 : goal.returns-then-i-ge8192
returns-then-i-ge8192 c =
    let a = c.args in
    let v : List ℕ = values_at a.m a.g.now a.points.now in
    sym (get_or-eq_default v 0 {n = a.i} (omega (arith, length_values a.m a.g.now a.points.now)))

pub returns : goal.returns
returns c = ap (λ (v : List ℕ). get_or v c.args.i 0) c.values-v.ensures
