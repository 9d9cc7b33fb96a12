-- The loop's invariant: r is a^(2^k - 2). Assumes nothing.
use mathlib.Core.Path.{ap, ◌∙◌}
use Prim.Native.Nat.{ℕ}
use native.Mathlib.Omega.{arith}
use Rattle.field.specs.Field.{mul}
use Rattle.field.proofs.Table.{width_over_one}
use Rattle.field.proofs.Reciprocals.{square_power, power-turn, power-last}
use Rattle.field.proofs.inverse_power.Goals as goal

pub loop-k-init : goal.loop-k-init
loop-k-init c = (omega arith, width_over_one _ c.requires, c.times-r.ensures ∙ square_power _ c.requires _)

pub loop-k-preserved : goal.loop-k-preserved
loop-k-preserved c =
    let l = c.loop-k in
    let m : ℕ = c.args.m in (
      omega arith,
      omega arith,
      c.times-r-in-loop-k.ensures
          ∙ ap (λ (x : ℕ). mul m x x) (c.times-p.ensures ∙ ap (λ (x : ℕ). mul m x c.args.a) l.invariant.2)
          ∙ power-turn m c.requires c.args.a l.k l.invariant.0,
    )

pub returns : goal.returns
returns c =
    let l = c.loop-k in
    l.invariant.2 ∙ power-last c.args.m c.requires c.args.a (omega arith)
