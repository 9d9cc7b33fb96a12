-- The loop's invariant: the sums over the first points, up to `at`. Assumes nothing.
use mathlib.Core.Path.{◌≡◌, sym, ap, ◌∙◌}
use Prim.Native.Nat.{ℕ, ◌+◌, ◌-◌}
use native.Mathlib.Omega.{arith}
use lib.ListN.{length, length-replicate}
use borrow.Rule.Slice.PartMut.{mid_of, mid_len}
use Rattle.bits.specs.Bits.{padded}
use Rattle.point_sums.proofs.Weighted.{sums_none, sums_block, sums_all_lem}
use Rattle.point_sums.proofs.points.over_points.Goals as goal

pub loop-at-init : goal.loop-at-init
loop-at-init c = (omega arith, length-replicate {A = ℕ} 256 0, sums_none c.args.m c.args.k c.requires.1)

pub block_sums-requires : goal.block_sums-requires
block_sums-requires c =
    let l = c.loop-at in
    let a = c.args in
    let e = l.at + c.smaller.result in
    let lw : length (mid_of l.at (e - l.at) a.w.now) ≡ e - l.at = mid_len l.at e a.w.now (omega arith) in
    let lp : length (mid_of l.at (e - l.at) a.points.now) ≡ e - l.at = mid_len l.at e a.points.now (omega arith) in
    (c.requires.0, omega arith, lw ∙ sym lp, omega arith)

pub loop-at-preserved : goal.loop-at-preserved
loop-at-preserved c =
    let l = c.loop-at in
    let a = c.args in
    let e = l.at + c.smaller.result in
    let h = c.block_sums in (
      omega arith,
      h.auto.s ∙ l.invariant.1,
      sums_block a.m a.k a.w.now a.points.now l.at e l.s _ (omega arith) (omega arith) (omega arith) l.invariant.2 h.ensures,
    )

pub returns : goal.returns
returns c =
    let l = c.loop-at in
    let a = c.args in
    l.invariant.2 ∙ ap (padded 256) (sums_all_lem a.m a.k l.at a.w.now a.points.now (omega arith))
