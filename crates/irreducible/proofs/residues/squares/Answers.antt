-- The loop's invariant: b is the square of r's first i coefficients. Assumes nothing.
use mathlib.Core.Path.{sym, ap}
use mathlib.Core.List.{List}
use Prim.Native.Nat.{ℕ}
use native.Mathlib.Omega.{arith}
use lib.ListN.{length}
use Rattle.bits.specs.Xor.{◌⊕◌}
use Rattle.irreducible.proofs.Products.{part_none, part_square, part_all, block_part, square_at}
use Rattle.irreducible.proofs.residues.squares.Goals as goal

pub slice_bounds-square_each-end : goal.slice_bounds-square_each-end
slice_bounds-square_each-end c = let r = c.args.r.now in sym (ap length (block_part r c.block-s.result (omega arith) c.block-s.ensures))

pub loop-i-init : goal.loop-i-init
loop-i-init c = (omega arith, part_none _ _ _ 0)

pub loop-i-preserved : goal.loop-i-preserved
unfolding ◌⊕◌
loop-i-preserved c =
    let l = c.loop-i in
    let a = c.args in
    let r : List ℕ = a.r.now in
    let v = square_at a.m c.requires.0 r c.block-s.result _ l.i (omega arith) c.block-s.ensures c.square_each.ensures (omega arith) in
    (omega arith, part_square a.m r l.i _ l.b (omega arith) v l.invariant.1)

pub returns : goal.returns
returns c =
    let l = c.loop-i in
    let a = c.args in
    part_all a.m a.r.now a.r.now l.i l.i l.b (omega arith) (omega arith) l.invariant.1
