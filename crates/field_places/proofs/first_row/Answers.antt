-- The loop's invariant: the first i entries are made. Assumes nothing.
use mathlib.Core.Path.{ap₂, ◌∙◌}
use Prim.Native.Nat.{ℕ}
use native.Mathlib.Omega.{arith}
use mathlib.Core.List.{List}
use lib.Pow.{pow_pos}
use lib.ListN.{get_or, set}
use Rattle.field.proofs.Machine.{one_shl, low-digits}
use Rattle.field.proofs.Table.{width_narrow}
use Rattle.field.proofs.PointTable.{made, made-start, first_next, first_all}
use Rattle.field_places.proofs.first_row.Goals as goal

pub overflow_shl-mask : goal.overflow_shl-mask
overflow_shl-mask c = omega (arith, width_narrow c.args.m c.requires)

pub overflow_sub-mask : goal.overflow_sub-mask
overflow_sub-mask c = rw (one_shl c.args.m (width_narrow c.args.m c.requires)) (pow_pos c.args.m)

pub loop-i-init : goal.loop-i-init
loop-i-init c = let a = c.args in (omega arith, made-start a.m a.a.now)

pub loop-i-preserved : goal.loop-i-preserved
loop-i-preserved c =
    let l = c.loop-i in
    let a = c.args in (
      omega arith,
      ap₂ (λ (t : List ℕ) (v : ℕ). set t l.i v) l.invariant.1 (low-digits a.m (width_narrow a.m c.requires) (get_or a.a.now l.i 0))
          ∙ first_next a.m a.a.now c.requires l.i (omega arith),
    )

pub returns : goal.returns
unfolding made
returns c =
    let l = c.loop-i in
    l.invariant.1 ∙ first_all c.args.m c.args.a.now c.requires l.i (omega arith) (λ h. omega arith)
