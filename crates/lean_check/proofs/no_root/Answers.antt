-- The loop's invariant: the places from `at` on decide. Assumes nothing.
use mathlib.Core.Path.{◌≡◌, refl, sym, ap, ◌∙◌}
use Prim.Native.Nat.{ℕ, ◌+◌, ◌-◌}
use native.Mathlib.Omega.{arith}
use borrow.Rule.Slice.PartMut.{mid_of, mid_len}
use lib.ListN.{length, drop}
use Rattle.key.specs.Parts.{no_root}
use Rattle.key.proofs.Order.{failed, passed}
use Rattle.lean_check.proofs.Blocks.{block_found, block_none, blocks_end}
use Rattle.lean_check.proofs.no_root.Goals as goal

pub loop-at-init : goal.loop-at-init
loop-at-init c = (omega arith, refl)

pub no_root_of_few-requires : goal.no_root_of_few-requires
no_root_of_few-requires c =
    let l = c.loop-at in
    let q = c.smaller.result in
    let e : length (mid_of l.at (l.at + q - l.at) c.args.s.now) ≡ l.at + q - l.at = mid_len l.at (l.at + q) c.args.s.now (omega arith) in
    (c.requires, omega arith)

pub returns-then-not-no_root_of_few : goal.returns-then-not-no_root_of_few
returns-then-not-no_root_of_few c =
    let l = c.loop-at in
    let a = c.args in
    let q = c.smaller.result in
    block_found a.m a.g.now a.s.now l.at (l.at + q - l.at) (failed c.no_root_of_few.ensures c.if-not-no_root_of_few.true) ∙ l.invariant.1

pub loop-at-preserved : goal.loop-at-preserved
loop-at-preserved c =
    let l = c.loop-at in
    let a = c.args in
    let q = c.smaller.result in
    let e : l.at + (l.at + q - l.at) ≡ l.at + q = omega arith in (
      omega arith,
      ap (λ (i : ℕ). no_root a.m a.g.now (drop i a.s.now)) (sym e)
          ∙ block_none a.m a.g.now a.s.now l.at (l.at + q - l.at) (passed c.no_root_of_few.ensures c.if-not-no_root_of_few.false)
          ∙ l.invariant.1,
    )

pub returns : goal.returns
returns c =
    let l = c.loop-at in
    let a = c.args in
    blocks_end a.m a.g.now a.s.now l.at (omega arith) ∙ l.invariant.1
