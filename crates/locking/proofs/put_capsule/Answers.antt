-- The loop's invariant: the bits from r on are left to write. Assumes nothing.
use mathlib.Core.Path.{◌≡◌, refl, sym, ap, ap₂, ◌∙◌}
use mathlib.Core.List.{List, map}
use Prim.Native.Nat.{ℕ, ◌+◌}
use native.Mathlib.Nat.{zero-mul, zero-add}
use native.Mathlib.Omega.{arith}
use borrow.Author.Rules.{rules}
use lib.ListN.{length, take, drop}
use lib.Seq.{length-take-le}
use Rattle.bits.specs.Xor.{◌⊕◌}
use Rattle.bits.specs.Bits.{from, bytes_for, set_bit, put_bits}
use Rattle.bits.proofs.Lists.{length-map-from, map-from-at}
use Rattle.bits.proofs.PutBits.{put_next, put_end, length-put_bits}
use Rattle.bits.proofs.Parts.{rows_in, next_row, row_size}
use Rattle.locking.specs.Locking.{capsule_bit}
use Rattle.locking.proofs.Rows.{product_tail}
use Rattle.locking.proofs.put_capsule.Goals as goal

pub loop-r-init : goal.loop-r-init
loop-r-init c = (omega arith, sym (zero-mul _), omega arith, refl)

pub slice_bounds-tail-end : goal.slice_bounds-tail-end
slice_bounds-tail-end c =
    let a = c.args in
    let e : length c.tail_of-tail.result ≡ 1024 = search rules in
    omega (arith, row_size a.w (omega arith))

pub slice_bounds-row_bit-end : goal.slice_bounds-row_bit-end
slice_bounds-row_bit-end c =
    let a = c.args in
    let e : length c.tail_of-tail.result ≡ 1024 = search rules in
    sym (length-take-le c.bytes_for-size.result c.tail_of-tail.result (omega (arith, row_size a.w (omega arith))))

pub row_bit-requires : goal.row_bit-requires
row_bit-requires c =
    let l = c.loop-r in
    let a = c.args in
    let e : length c.tail_of-tail.result ≡ 1024 = search rules in
    let size : length (take c.bytes_for-size.result c.tail_of-tail.result) ≡ bytes_for a.w =
    length-take-le c.bytes_for-size.result c.tail_of-tail.result (omega (arith, row_size a.w (omega arith))) ∙ c.bytes_for-size.ensures in
    omega (arith, size, rows_in l.r a.rows (bytes_for a.w) (omega arith))

pub overflow_add-at : goal.overflow_add-at
overflow_add-at c =
    let l = c.loop-r in
    let a = c.args in
    omega (arith, rows_in l.r a.rows (bytes_for a.w) (omega arith))

pub loop-r-preserved : goal.loop-r-preserved
unfolding ◌⊕◌ capsule_bit
loop-r-preserved c =
    let l = c.loop-r in
    let a = c.args in
    let bit : ℕ → ℕ = capsule_bit a.w a.rows a.public.now a.pattern.now in
    let bits : List ℕ = map bit (from 0 a.rows) in
    let e : length bits ≡ a.rows = length-map-from _ 0 a.rows in (
      omega arith,
      omega (arith, next_row l.r (bytes_for a.w)),
      omega (arith, rows_in l.r a.rows (bytes_for a.w) (omega arith)),
      ap (put_bits (drop (l.r + 1) bits) (l.r + 1))
          (c.set_bit.ensures
          ∙ ap (set_bit l.out l.r)
          (ap₂ ◌⊕◌ c.bit_at.ensures
          (c.row_bit.ensures
          ∙ product_tail a.w a.rows a.public.now a.pattern.now l.r l.at _ _ l.invariant.1 c.bytes_for-size.ensures c.tail_of-tail.ensures)
          ∙ ap bit (sym (zero-add l.r))
          ∙ sym (map-from-at bit 0 a.rows l.r 0 (omega arith))))
          ∙ put_next bits l.r l.out (omega arith)
          ∙ l.invariant.3,
    )

pub shape_of-out : goal.shape_of-out
shape_of-out c = let l = c.loop-r in sym (length-put_bits _ l.r l.out) ∙ ap length l.invariant.3 ∙ length-put_bits _ 0 _

pub returns : goal.returns
returns c =
    let l = c.loop-r in
    let a = c.args in
    let bits : List ℕ = map (capsule_bit a.w a.rows a.public.now a.pattern.now) (from 0 a.rows) in
    let e : length bits ≡ a.rows = length-map-from _ 0 a.rows in
    sym (put_end bits l.r l.out (omega arith)) ∙ l.invariant.3
