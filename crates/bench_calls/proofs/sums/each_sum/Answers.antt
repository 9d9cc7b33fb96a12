-- The loop's invariant: the first k sums, and the powers k. Assumes nothing.
use mathlib.Core.Path.{refl, sym, ap, ap₂, ◌∙◌}
use mathlib.Core.List.{List}
use Prim.Native.Nat.{ℕ}
use native.Mathlib.Omega.{arith}
use lib.ListN.{set, length-set}
use Rattle.bits.proofs.Padded.{padded-start, padded-next}
use Rattle.field.proofs.Verdicts.{accepts, verdict_accepted}
use Rattle.decoding.proofs.Divisors.{sums_refused, sums_accepted}
use Rattle.bench_calls.specs.Weights.{sum_by_squares}
use Rattle.bench_calls.proofs.Powers.{powers_start, powers_next, sums, length_all, sum-at, sums_all_lem, values_units, squares_verdict, squares_value}
use Rattle.bench_calls.proofs.sums.each_sum.Goals as goal

pub loop-k-init : goal.loop-k-init
loop-k-init c =
    let a = c.args in (
      omega arith,
      refl,
      refl,
      padded-start 256 (sums a.m a.g.now a.points.now),
      powers_start a.m c.requires.0 a.g.now a.points.now,
      λ h. absurd (omega arith),
    )

pub overflow_mul-g : goal.overflow_mul-g
overflow_mul-g c = omega (arith, c.requires.2)

pub sum_afresh-d-requires : goal.sum_afresh-d-requires
sum_afresh-d-requires c = (c.requires.0, c.requires.1)

pub returns-in_default : goal.returns-in_default
returns-in_default c = sums_refused _ _ (squares_verdict _ _ _ c.sum_afresh-d.ensures) c.in_default.is

pub bounds-s-k : goal.bounds-s-k
bounds-s-k c =
    let l = c.loop-k in
    omega (arith, c.requires.2)

pub loop-k-preserved : goal.loop-k-preserved
loop-k-preserved c =
    let d = c.sum_afresh-d in
    let l = c.loop-k in
    let a = c.args in
    let z = verdict_accepted _ (squares_verdict _ _ _ d.ensures) c.in-Accepted.is in
    let n = length_all a.m a.g.now a.points.now in
    let v = squares_value _ _ _ (d.ensures ∙ ap (sum_by_squares a.m _) l.invariant.4) z ∙ sum-at a.m c.requires.0 a.g.now a.points.now c.requires.1 l.k c.loop-k-test.true in (
      omega arith,
      length-set l.s _ _ ∙ l.invariant.1,
      c.horner_each.auto.r ∙ l.invariant.2,
      ap₂ (λ (d : List ℕ) (v : ℕ). set d l.k v) l.invariant.3 v
          ∙ padded-next 256 (sums a.m a.g.now a.points.now) l.k (omega (arith, n)) (omega (arith, c.requires.2)),
      c.horner_each.ensures ∙ powers_next a.m c.requires.0 a.g.now a.points.now l.k l.invariant.4,
      λ k. z,
    )

pub returns : goal.returns
returns c =
    let l = c.loop-k in
    let a = c.args in
    sums_accepted _ _ (accepts (sym (values_units a.m c.requires.0 a.g.now a.points.now l.k c.loop-k-test.false l.invariant.5))) refl
    (l.invariant.3 ∙ sums_all_lem a.m c.requires.0 a.g.now a.points.now c.requires.2 l.k c.loop-k-test.false)
