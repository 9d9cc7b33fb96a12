-- The loop's invariant: the bits from 8·q on are left to write. Assumes nothing.
use mathlib.Core.Path.{◌≡◌, refl, sym, ap, ◌∙◌}
use mathlib.Core.List.{List, map}
use Prim.Native.Nat.{ℕ, ◌+◌, ◌-◌, ◌*◌, ◌%◌}
use native.Mathlib.Omega.{arith}
use borrow.Rule.Slice.PartMut.{put_mid, same_len_mid}
use lib.ListN.{length, take, drop}
use Rattle.bits.specs.Bits.{from, bit_at, put_bits}
use Rattle.bits.proofs.Lists.{length-map-from, map-from-part}
use Rattle.bits.proofs.Pack.{bytes_enough}
use Rattle.bits.proofs.PutBits.{put_lent, put_end}
use Rattle.packed.proofs.copy_row.Goals as goal

pub loop-q-init : goal.loop-q-init
loop-q-init c = (omega arith, refl, refl)

pub slice_bounds-copy_bits-count : goal.slice_bounds-copy_bits-count
slice_bounds-copy_bits-count c = omega (arith, bytes_enough c.args.w)

pub slice_bounds-copy_bits-start : goal.slice_bounds-copy_bits-start
slice_bounds-copy_bits-start c = omega (arith, bytes_enough c.args.w)

pub slice_bounds-copy_bits-end : goal.slice_bounds-copy_bits-end
slice_bounds-copy_bits-end c = omega (arith, bytes_enough c.args.w)

pub loop-q-preserved : goal.loop-q-preserved
loop-q-preserved c =
    let l = c.loop-q in
    let a = c.args in
    let q = c.copy_bits in
    let bits : List ℕ = map (bit_at a.s.now) (from a.b a.w) in
    let size : length bits ≡ a.w = length-map-from (bit_at a.s.now) a.b a.w in
    let next : 8 * (l.q + 1) ≡ 8 * l.q + 8 = omega arith in
    let part = map-from-part (bit_at a.s.now) a.b a.w (8 * l.q) 8 (omega arith) in
    let lent : List ℕ = take (length l.out - l.q) (drop l.q l.out) in (
      omega arith,
      same_len_mid l.q (length l.out - l.q) l.out q.new.out q.auto.out ∙ l.invariant.1,
      ap (λ (i : ℕ). put_bits (drop i bits) i (put_mid l.q (length l.out - l.q) l.out q.new.out)) next
          ∙ put_lent bits l.q 8 (length l.out) l.out q.new.out refl (omega (arith, bytes_enough a.w)) (omega arith)
          (q.ensures ∙ ap (λ (t : List ℕ). put_bits t 0 lent) (sym part))
          ∙ l.invariant.2,
    )

pub slice_bounds-copy_bits-count-2 : goal.slice_bounds-copy_bits-count-2
slice_bounds-copy_bits-count-2 c = omega (arith, bytes_enough c.args.w)

pub slice_bounds-copy_bits-start-2 : goal.slice_bounds-copy_bits-start-2
slice_bounds-copy_bits-start-2 c = omega (arith, bytes_enough c.args.w)

pub slice_bounds-copy_bits-end-2 : goal.slice_bounds-copy_bits-end-2
slice_bounds-copy_bits-end-2 c = omega (arith, bytes_enough c.args.w)

pub shape_of-out : goal.shape_of-out
shape_of-out c =
    let l = c.loop-q in
    let q = c.copy_bits-2 in
    same_len_mid l.q (length l.out - l.q) l.out q.new.out q.auto.out ∙ l.invariant.1

pub returns : goal.returns
returns c =
    let l = c.loop-q in
    let a = c.args in
    let q = c.copy_bits-2 in
    let bits : List ℕ = map (bit_at a.s.now) (from a.b a.w) in
    let size : length bits ≡ a.w = length-map-from (bit_at a.s.now) a.b a.w in
    let k : ℕ = a.w % 8 in
    let part = map-from-part (bit_at a.s.now) a.b a.w (8 * l.q) k (omega arith) in
    let lent : List ℕ = take (length l.out - l.q) (drop l.q l.out) in
    sym (put_end bits (8 * l.q + k) (put_mid l.q (length l.out - l.q) l.out q.new.out) (omega arith))
    ∙ put_lent bits l.q k (length l.out) l.out q.new.out refl (omega (arith, bytes_enough a.w)) (omega arith)
    (q.ensures ∙ ap (λ (t : List ℕ). put_bits t 0 lent) (sym part))
    ∙ l.invariant.2
