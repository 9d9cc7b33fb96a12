-- Past the last byte nothing is written; before it, the byte written is the one with the bit put in. Assumes nothing.
use mathlib.Core.Path.{sym, ap, ◌∙◌}
use mathlib.Core.List.{List}
use Prim.Native.Nat.{ℕ, ◌/◌, ◌%◌}
use native.Mathlib.Omega.{arith}
use lib.Bits.{and_mask}
use lib.ListN.{get_or, set}
use Rattle.bits.specs.Bits.{set_bit}
use Rattle.bits.proofs.Bits.{set_bit_past, put, put_with}
use Rattle.bits.proofs.set_bit.Goals as goal

pub returns-then-out-at : goal.returns-then-out-at
returns-then-out-at c = sym (set_bit_past c.args.out.now c.args.i c.args.v (omega arith))

pub returns : goal.returns
unfolding set_bit
returns c =
    let a = c.args in
    let s : List ℕ = a.out.now in
    let q : ℕ = a.i / 8 in
    let k : ℕ = a.i % 8 in
    let b : ℕ = get_or s q 0 in
    ap (λ (x : ℕ). set s q (put b k x)) (and_mask a.v 1)
    ∙ ap (set s q) (put_with b k (a.v % 2) (c.slice_known-1.given q).fits (omega arith) (omega arith))
