-- The loop's invariant: the marks from i on are left to write. Assumes nothing.
use mathlib.Core.Path.{◌≡◌, refl, sym, ap, ◌∙◌}
use mathlib.Core.List.{List, map}
use Prim.Native.Nat.{ℕ, ◌+◌}
use native.Mathlib.Omega.{arith}
use lib.ListN.{length, drop, length-map}
use Rattle.bits.specs.Bits.{set_bit, put_bits}
use Rattle.bits.proofs.Lists.{map_at}
use Rattle.bits.proofs.PutBits.{put_next, put_end, length-put_bits}
use Rattle.decoding.specs.Parts.{mark}
use Rattle.decoding.proofs.places.mark_bits.Goals as goal

pub loop-i-init : goal.loop-i-init
loop-i-init c = (omega arith, refl)

pub loop-i-preserved : goal.loop-i-preserved
loop-i-preserved c =
    let l = c.loop-i in
    let a = c.args in
    let bits : List ℕ = map mark a.values.now in
    let e : length bits ≡ length a.values.now = length-map a.values.now mark in (
      omega arith,
      ap (put_bits (drop (l.i + 1) bits) (l.i + 1))
          (c.set_bit.ensures
          ∙ ap (set_bit l.out l.i) (c.mark.ensures ∙ sym (map_at mark a.values.now l.i 0 0 (omega arith))))
          ∙ put_next bits l.i l.out (omega arith)
          ∙ l.invariant.1,
    )

pub shape_of-out : goal.shape_of-out
shape_of-out c = let l = c.loop-i in sym (length-put_bits _ l.i l.out) ∙ ap length l.invariant.1 ∙ length-put_bits _ 0 _

pub returns : goal.returns
returns c =
    let l = c.loop-i in
    let a = c.args in
    let bits : List ℕ = map mark a.values.now in
    let e : length bits ≡ length a.values.now = length-map a.values.now mark in
    sym (put_end bits l.i l.out (omega arith)) ∙ l.invariant.1
