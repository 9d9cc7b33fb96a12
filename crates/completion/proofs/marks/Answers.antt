-- Assumes nothing.
use mathlib.Core.Path.{refl, sym, ap, ◌∙◌}
use Prim.Native.Nat.{◌+◌}
use native.Mathlib.Omega.{arith}
use lib.ListN.{length, drop, get_or}
use Rattle.bits.proofs.Bits.{length-set_bit}
use Rattle.completion.specs.Marks.{marked}
use Rattle.completion.proofs.Marking.{marked_next, marked_end}
use borrow.Author.Rules.{rules}
use Rattle.completion.proofs.marks.Goals as goal

pub loop-i-init : goal.loop-i-init
loop-i-init c = (search rules, refl)

pub slice_bounds-set_bit-end : goal.slice_bounds-set_bit-end
slice_bounds-set_bit-end c = sym c.loop-i.invariant.0

pub loop-i-preserved : goal.loop-i-preserved
loop-i-preserved c =
    let l = c.loop-i in
    let s = c.args.s.now in
    let e = c.set_bit.ensures in (
      ap length e ∙ length-set_bit l.row (get_or s l.i 0) 1 ∙ l.invariant.0,
      ap (marked (drop (l.i + 1) s)) e ∙ marked_next s l.row l.i (omega arith) ∙ l.invariant.1,
    )

pub returns : goal.returns
returns c = let l = c.loop-i in sym (marked_end _ l.row l.i (omega arith)) ∙ l.invariant.1
