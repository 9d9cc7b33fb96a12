-- `levels::bases::first_basis` meets its contract. Assumes nothing.
use mathlib.Core.Path.{◌≡◌, sym, ap, ap₂, ◌∙◌}
use Prim.Native.Nat.{ℕ, ◌^◌}
use native.Mathlib.Omega.{arith}
use mathlib.Core.List.{List}
use lib.ListN.{get_or, set}
use Rattle.bits.specs.Bits.{padded, from}
use mathlib.Core.List.{map}
use native.Mathlib.Nat.{zero-add}
use lib.Seq.{take_all}
use Rattle.bits.proofs.Lists.{map-from-at, length-map-from}
use Rattle.bits.proofs.Padded.{padded-start, padded-next}
use Rattle.field.proofs.Table.{width_narrow}
use Rattle.field.proofs.Machine.{one_shl}
use Rattle.levels.specs.Levels.{basis_of}
use Rattle.levels.proofs.bases.first_basis.Goals as goal

pub loop-i-init : goal.loop-i-init
loop-i-init c = (omega arith, padded-start 16 (map (λ j. 2 ^ j) (from 0 c.args.m)))

pub overflow_shl-r : goal.overflow_shl-r
overflow_shl-r c = omega (arith, width_narrow _ c.requires)

pub bounds-r-i : goal.bounds-r-i
bounds-r-i c = omega (arith, width_narrow _ c.requires)

pub loop-i-preserved : goal.loop-i-preserved
loop-i-preserved c =
    let l = c.loop-i in
    let m : ℕ = c.args.m in
    let p : List ℕ = map (λ j. 2 ^ j) (from 0 m) in
    let n = width_narrow m c.requires in
    let e : get_or p l.i 0 ≡ 2 ^ l.i = map-from-at (λ j. 2 ^ j) 0 m l.i 0 (omega arith) ∙ ap (λ (j : ℕ). 2 ^ j) (zero-add l.i) in (
      omega arith,
      ap₂ (λ (r : List ℕ) (v : ℕ). set r l.i v) l.invariant.1 (one_shl l.i (omega arith) ∙ sym e)
          ∙ padded-next 16 p l.i (omega (arith, length-map-from (λ j. 2 ^ j) 0 m)) (omega arith),
    )

pub returns : goal.returns
unfolding basis_of
returns c =
    let l = c.loop-i in
    let m : ℕ = c.args.m in
    let p : List ℕ = map (λ j. 2 ^ j) (from 0 m) in
    l.invariant.1 ∙ ap (padded 16) (take_all l.i p (omega (arith, length-map-from (λ j. 2 ^ j) 0 m)))
