-- The loop's invariant: the bits from j on are left to write. Assumes nothing.
use mathlib.Core.Path.{◌≡◌, refl, sym, ap, ◌∙◌}
use mathlib.Core.List.{List, map}
use Prim.Native.Nat.{ℕ, ◌+◌}
use native.Mathlib.Omega.{arith}
use lib.ListN.{length, drop}
use Rattle.bits.specs.Bits.{from, bit_at, set_bit, put_bits}
use Rattle.bits.proofs.Lists.{length-map-from, map-from-at}
use Rattle.bits.proofs.PutBits.{put_next, put_end, length-put_bits}
use Rattle.packed.proofs.copy_bits.Goals as goal

pub loop-j-init : goal.loop-j-init
loop-j-init c = (omega arith, refl)

pub loop-j-preserved : goal.loop-j-preserved
loop-j-preserved c =
    let l = c.loop-j in
    let a = c.args in
    let bits : List ℕ = map (bit_at a.s.now) (from a.b a.w) in
    let e : length bits ≡ a.w = length-map-from (bit_at a.s.now) a.b a.w in (
      omega arith,
      ap (put_bits (drop (l.j + 1) bits) (l.j + 1))
          (c.set_bit.ensures
          ∙ ap (set_bit l.out l.j)
          (c.bit_at.ensures ∙ sym (map-from-at (bit_at a.s.now) a.b a.w l.j 0 (omega arith))))
          ∙ put_next bits l.j l.out (omega arith)
          ∙ l.invariant.1,
    )

pub shape_of-out : goal.shape_of-out
shape_of-out c = let l = c.loop-j in sym (length-put_bits _ l.j l.out) ∙ ap length l.invariant.1 ∙ length-put_bits _ 0 _

pub returns : goal.returns
returns c =
    let l = c.loop-j in
    let a = c.args in
    let bits : List ℕ = map (bit_at a.s.now) (from a.b a.w) in
    let e : length bits ≡ a.w = length-map-from (bit_at a.s.now) a.b a.w in
    sym (put_end bits l.j l.out (omega arith)) ∙ l.invariant.1
