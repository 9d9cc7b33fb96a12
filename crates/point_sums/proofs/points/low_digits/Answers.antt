-- The loop's invariant: the low digits of the first i numbers, and zeros behind them. Assumes nothing.
use mathlib.Core.Path.{sym, ap, ap₂, ◌∙◌}
use mathlib.Core.List.{List, map}
use Prim.Native.Nat.{ℕ, ◌%◌, ◌^◌}
use native.Mathlib.Omega.{arith}
use lib.ListN.{get_or, set, length-map}
use lib.Pow.{pow_pos}
use lib.Seq.{take_all}
use Rattle.bits.specs.Bits.{padded}
use Rattle.bits.proofs.Lists.{map_at}
use Rattle.bits.proofs.Padded.{padded-start, padded-next}
use Rattle.field.proofs.Machine.{one_shl, low-digits}
use Rattle.field.proofs.Table.{width_narrow}
use Rattle.point_sums.proofs.points.low_digits.Goals as goal

pub overflow_shl-mask : goal.overflow_shl-mask
overflow_shl-mask c = omega (arith, width_narrow c.args.m c.requires.0)

pub overflow_sub-mask : goal.overflow_sub-mask
overflow_sub-mask c = rw (one_shl c.args.m (width_narrow c.args.m c.requires.0)) (pow_pos c.args.m)

pub loop-i-init : goal.loop-i-init
loop-i-init c = (omega arith, padded-start 64 (map (λ x. x % 2 ^ c.args.m) c.args.w.now))

pub loop-i-preserved : goal.loop-i-preserved
loop-i-preserved c =
    let l = c.loop-i in
    let a = c.args in
    let w = a.w.now in
    let low : ℕ → ℕ = λ x. x % 2 ^ a.m in
    let e = low-digits a.m (width_narrow a.m c.requires.0) (get_or w l.i 0) ∙ sym (map_at low w l.i 0 0 (omega arith)) in
    (omega arith, ap₂ (λ (p : List ℕ) (v : ℕ). set p l.i v) l.invariant.1 e ∙ padded-next 64 (map low w) l.i (omega (arith, length-map w low)) (omega arith))

pub returns : goal.returns
returns c =
    let l = c.loop-i in
    let a = c.args in
    let low : ℕ → ℕ = λ x. x % 2 ^ a.m in
    l.invariant.1 ∙ ap (padded 64) (take_all l.i (map low a.w.now) (omega (arith, length-map a.w.now low)))
