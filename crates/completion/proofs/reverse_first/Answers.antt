-- Assumes nothing.
use mathlib.Core.Path.{sym, ap}
use mathlib.Core.List.{List, ◌++◌}
use Prim.Native.Nat.{ℕ}
use native.Mathlib.Omega.{arith}
use lib.ListN.{drop}
use lib.Seq.{length-take-le, length_front}
use Rattle.completion.proofs.reverse_first.Goals as goal

pub slice_bounds-reverse_each-end-2 : goal.slice_bounds-reverse_each-end-2
slice_bounds-reverse_each-end-2 c = sym (length-take-le _ c.args.values.now (omega arith))

pub shape_of-values : goal.shape_of-values
shape_of-values c =
    let a = c.args in
    length_front a.values.now c.reverse_each.new.places a.n c.reverse_each.auto.places

pub returns : goal.returns
returns c =
    let a = c.args in
    ap (λ (l : List ℕ). l ++ drop a.n a.values.now) c.reverse_each.ensures
