-- `key::checks::no_root_of_few` meets its contract. Assumes nothing.
use mathlib.Core.Path.{◌≡◌, sym, ap, ◌∙◌}
use mathlib.Core.Bool.{not}
use mathlib.Core.List.{List}
use Prim.Native.Nat.{ℕ}
use native.Mathlib.Omega.{arith}
use lib.Dec.{eqb}
use lib.ListN.{length, take}
use lib.Seq.{length-take-le}
use Rattle.bits.specs.Bits.{every}
use Rattle.key.proofs.Values.{few_root}
use Rattle.key.proofs.checks.no_root_of_few.Goals as goal

pub slice_bounds-values-end : goal.slice_bounds-values-end
slice_bounds-values-end c =
    let e : length c.value_each.new.r ≡ 64 = c.value_each.auto.r in
    omega (arith, c.requires.1)

pub slice_bounds-no_zero-end : goal.slice_bounds-no_zero-end
slice_bounds-no_zero-end c =
    let e : length c.value_each.new.r ≡ 64 = c.value_each.auto.r in
    sym (length-take-le _ _ (omega (arith, c.requires.1)))

pub returns : goal.returns
returns c =
    let a = c.args in
    c.no_zero.ensures
    ∙ ap (λ (v : List ℕ). every (λ x. not (eqb x 0)) (take (length a.s.now) v)) c.value_each.ensures
    ∙ few_root a.m c.requires.0 a.g.now a.s.now 64 c.requires.1
