-- The sums over the word's points are the word's. Assumes nothing.
use mathlib.Core.Path.{◌≡◌, sym, ap, ap₂, ◌∙◌}
use mathlib.Core.List.{List, map}
use Prim.Native.Nat.{ℕ, ◌≤◌}
use native.Mathlib.Omega.{arith}
use borrow.Author.Rules.{rules}
use lib.ListN.{length}
use lib.Seq.{length-take-le}
use Rattle.bits.specs.Bits.{unpack}
use Rattle.bits.proofs.Pack.{row_unpack}
use Rattle.field.specs.Answers.{inverse_number}
use Rattle.key.specs.Keys.{goppa_at, key_of}
use Rattle.decoding.specs.Parts.{point_sums, sums_of, divisors}
use Rattle.decoding.proofs.Gathered.{length-chosen-le}
use Rattle.decoding.proofs.PowerSums.{values_points, chosen_sums}
use Rattle.decoding.proofs.sums.word_sums.Goals as goal

pub slice_bounds-at-end : goal.slice_bounds-at-end
slice_bounds-at-end c =
    let a = c.args in
    let l : length c.chosen-c.result.at ≡ 8192 = search rules in
    omega (arith, length-chosen-le (unpack (length a.support.now) a.word.now) a.support.now)

pub slice_bounds-points-end : goal.slice_bounds-points-end
slice_bounds-points-end c = let h = c.chosen-c.ensures in h.number ∙ sym (ap length h.all)

pub slice_bounds-v-end : goal.slice_bounds-v-end
slice_bounds-v-end c =
    let a = c.args in
    let l : length c.values-v.result ≡ 8192 = search rules in
    omega (arith, c.chosen-c.ensures.number, length-chosen-le (unpack (length a.support.now) a.word.now) a.support.now)

pub slice_bounds-sums_by_values-end : goal.slice_bounds-sums_by_values-end
slice_bounds-sums_by_values-end c =
    let a = c.args in
    let l : length c.values-v.result ≡ 8192 = search rules in
    sym (length-take-le c.chosen-c.result.count c.values-v.result
    (omega (arith, c.chosen-c.ensures.number, length-chosen-le (unpack (length a.support.now) a.word.now) a.support.now)))

pub sums_by_values-requires : goal.sums_by_values-requires
sums_by_values-requires c =
    let a = c.args in
    let few : c.chosen-c.result.count ≤ 8192 =
    omega (arith, c.chosen-c.ensures.number, length-chosen-le (unpack (length a.support.now) a.word.now) a.support.now) in
    let n = ap length c.chosen-c.ensures.all ∙ sym c.chosen-c.ensures.number in
    (c.requires.0, c.requires.2, values_points a.m c.requires.0 a.g.now _ n few c.values-v.ensures)

pub returns : goal.returns
unfolding divisors goppa_at key_of
returns c =
    let a = c.args in
    let few : c.chosen-c.result.count ≤ 8192 =
    omega (arith, c.chosen-c.ensures.number, length-chosen-le (unpack (length a.support.now) a.word.now) a.support.now) in
    let e = c.chosen-c.ensures.all in
    let n = ap length e ∙ sym c.chosen-c.ensures.number in
    c.sums_by_values.ensures
    ∙ ap₂ (λ (x s : List ℕ). sums_of (inverse_number a.m x) s)
    (values_points a.m c.requires.0 a.g.now _ n few c.values-v.ensures ∙ ap (map (goppa_at (key_of a.m a.support.now a.g.now))) e)
    (ap (point_sums a.m a.g.now) e ∙ chosen_sums a.m a.support.now a.g.now (row_unpack (length a.support.now) a.word.now))
