-- The loop's invariant: the first i bytes of the rest, and zeros. Assumes nothing.
use mathlib.Core.Path.{◌≡◌, refl, sym, ap, ap₂, ◌∙◌}
use Prim.Native.Nat.{ℕ}
use native.Mathlib.Omega.{arith}
use mathlib.Core.List.{List}
use lib.ListN.{length, get_or, set, length-set}
use Rattle.bits.specs.Bits.{padded, set_bit}
use Rattle.bits.proofs.Padded.{padded-start, padded-next}
use Rattle.keccak.specs.Lanes.{last_block}
use lib.Seq.{take_all}
use borrow.Author.Rules.{rules}
use Rattle.shake.proofs.last_block.Goals as goal

pub loop-i-init : goal.loop-i-init
loop-i-init c = (omega arith, refl, padded-start 136 c.args.rest.now)

pub loop-i-preserved : goal.loop-i-preserved
loop-i-preserved c =
    let l = c.loop-i in
    let rest = c.args.rest.now in (
      omega arith,
      simp length-set l.invariant.1,
      ap (λ (d : List ℕ). set d l.i (get_or rest l.i 0)) l.invariant.2 ∙ padded-next 136 rest l.i (omega arith) (omega arith),
    )

pub slice_bounds-set_bit-end : goal.slice_bounds-set_bit-end
slice_bounds-set_bit-end c = let e : 136 ≡ length c.loop-i.b = sym c.loop-i.invariant.1 in search rules

pub returns : goal.returns
unfolding last_block
returns c =
    let l = c.loop-i in
    let rest = c.args.rest.now in
    let e : l.i ≡ length rest = omega arith in
    c.set_bit.ensures
    ∙ ap₂ (λ (d : List ℕ) (i : ℕ). set_bit (set d i 31) 1087 1) (l.invariant.2 ∙ ap (padded 136) (take_all l.i rest (omega arith))) e
