-- The marks of the values of the register's reversed polynomial are its places. Assumes nothing.
use mathlib.Core.Path.{◌≡◌, sym, ◌∙◌}
use native.Mathlib.Omega.{arith}
use borrow.Author.Rules.{rules}
use lib.ListN.{length}
use lib.Seq.{length-take-le}
use Rattle.decoding.proofs.Located.{register_few, marks_places}
use Rattle.decoding.proofs.places.located.Goals as goal

pub backward-q-requires : goal.backward-q-requires
backward-q-requires c = register_few c.args.m c.args.s.now c.requires.1 _ c.of-r.ensures

pub slice_bounds-q-end : goal.slice_bounds-q-end
slice_bounds-q-end c =
    let l : length c.backward-q.result ≡ 256 = search rules in
    omega (arith, register_few c.args.m c.args.s.now c.requires.1 _ c.of-r.ensures)

pub slice_bounds-values-end : goal.slice_bounds-values-end
slice_bounds-values-end c =
    let l : length c.backward-q.result ≡ 256 = search rules in
    sym (length-take-le _ c.backward-q.result (omega (arith, register_few c.args.m c.args.s.now c.requires.1 _ c.of-r.ensures)))

pub slice_bounds-v-end : goal.slice_bounds-v-end
slice_bounds-v-end c =
    let l : length c.values-v.result ≡ 8192 = search rules in
    omega arith

pub slice_bounds-marks-end : goal.slice_bounds-marks-end
slice_bounds-marks-end c =
    let l : length c.values-v.result ≡ 8192 = search rules in
    sym (length-take-le _ c.values-v.result (omega arith))

pub marks-requires : goal.marks-requires
marks-requires c =
    let l : length c.values-v.result ≡ 8192 = search rules in
    omega (arith, length-take-le (length c.args.support.now) c.values-v.result (omega arith))

pub returns : goal.returns
returns c =
    c.marks.ensures
    ∙ marks_places c.args.m c.args.s.now c.requires.1 _ c.of-r.ensures c.args.support.now _ _ c.requires.0
    c.backward-q.ensures c.values-v.ensures
