-- `key::checks::no_root_of_many` meets its contract. Assumes nothing.
use mathlib.Core.Path.{◌≡◌, sym, ap, ◌∙◌}
use mathlib.Core.Bool.{not}
use mathlib.Core.List.{List}
use Prim.Native.Nat.{ℕ}
use native.Mathlib.Omega.{arith}
use lib.Dec.{eqb}
use lib.ListN.{length, take}
use lib.Seq.{length-take-le}
use Rattle.bits.specs.Bits.{every}
use Rattle.poly.proofs.AtPoints.{length_values}
use Rattle.key.proofs.Values.{values_root}
use Rattle.key.proofs.checks.no_root_of_many.Goals as goal

pub slice_bounds-no_zero-end : goal.slice_bounds-no_zero-end
slice_bounds-no_zero-end c =
    let e : length c.values-values.result ≡ 8192 = ap length c.values-values.ensures ∙ length_values _ _ _ in
    sym (length-take-le _ _ (omega arith))

pub returns : goal.returns
returns c =
    let a = c.args in
    c.no_zero.ensures
    ∙ ap (λ (v : List ℕ). every (λ x. not (eqb x 0)) (take (length a.s.now) v)) c.values-values.ensures
    ∙ values_root a.m c.requires.0 a.g.now a.s.now c.requires.1
