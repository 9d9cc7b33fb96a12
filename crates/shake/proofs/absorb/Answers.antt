-- The loop's invariant: the blocks from byte `at` on, absorbed into a, give what all give. Assumes nothing.
use mathlib.Core.Path.{sym, ap, ◌∙◌}
use Prim.Native.Nat.{◌+◌}
use native.Mathlib.Omega.{arith}
use lib.ListN.{length}
use Rattle.bits.proofs.Parts.{part_all}
use Rattle.keccak.specs.Lanes.{permuted, absorbed, last_block}
use Rattle.keccak.proofs.Padding.{last_count}
use Rattle.shake.proofs.Loops.{rest_count, absorbed_from, absorb-start, absorb-next, absorb_end}
use Rattle.shake.proofs.absorb.Goals as goal

pub loop-at-init : goal.loop-at-init
loop-at-init c = (omega arith, absorb-start _)

pub absorb_block-requires : goal.absorb_block-requires
absorb_block-requires c =
    let at = c.loop-at.at in
    let input = c.args.input.now in
    omega (arith, rest_count at input)

pub loop-at-preserved : goal.loop-at-preserved
loop-at-preserved c =
    let l = c.loop-at in
    let input = c.args.input.now in (
      omega arith,
      ap (absorbed_from (l.at + 136) input)
          (c.permute-next.ensures ∙ ap permuted (c.absorb_block.ensures ∙ ap (absorbed l.a) (part_all l.at input)))
          ∙ absorb-next l.at input l.a (omega arith)
          ∙ l.invariant.1,
    )

pub last_block-last-requires : goal.last_block-last-requires
last_block-last-requires c =
    let at = c.loop-at.at in
    let input = c.args.input.now in
    omega (arith, rest_count at input)

pub slice_bounds-absorb_block-end-2 : goal.slice_bounds-absorb_block-end-2
slice_bounds-absorb_block-end-2 c =
    let at = c.loop-at.at in
    let input = c.args.input.now in
    sym (ap length c.last_block-last.ensures ∙ last_count _ (omega (arith, rest_count at input)))

pub absorb_block-requires-2 : goal.absorb_block-requires-2
absorb_block-requires-2 c =
    let at = c.loop-at.at in
    let input = c.args.input.now in
    omega (arith, ap length c.last_block-last.ensures ∙ last_count _ (omega (arith, rest_count at input)))

pub returns : goal.returns
returns c =
    let l = c.loop-at in
    let input = c.args.input.now in
    c.permute.ensures
    ∙ ap permuted (c.absorb_block-2.ensures
    ∙ ap (absorbed l.a) (c.last_block-last.ensures ∙ ap last_block (part_all l.at input)))
    ∙ absorb_end l.at input l.a (omega arith)
    ∙ l.invariant.1
