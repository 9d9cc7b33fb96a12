-- The loop's invariant: the digits from j on are left to write. Assumes nothing.
use mathlib.Core.Path.{◌≡◌, refl, sym, ap, ◌∙◌}
use mathlib.Core.List.{List}
use Prim.Native.Nat.{ℕ, ◌+◌, ◌/◌, ◌^◌}
use native.Mathlib.Omega.{arith}
use lib.Bits.{and_le_r, and_mask}
use lib.ListN.{length, get_or, take, drop}
use lib.Seq.{length-take-le}
use Rattle.bits.specs.Bits.{set_bit, put_bits}
use Rattle.parity.specs.Rows.{digit_row}
use Rattle.bits.proofs.PutBits.{put_next, put_end, length-put_bits}
use Rattle.parity.proofs.DigitRows.{length-digit_row, digit_row-take}
use Rattle.parity.proofs.digit_row.Goals as goal

pub loop-j-init : goal.loop-j-init
loop-j-init c = (omega arith, refl)

pub overflow_cast-p : goal.overflow_cast-p
overflow_cast-p c =
    let a = c.args in
    omega (arith, and_le_r (get_or a.p.now c.loop-j.j 0 / 2 ^ a.k) 1)

pub loop-j-preserved : goal.loop-j-preserved
loop-j-preserved c =
    let l = c.loop-j in
    let a = c.args in
    let p : List ℕ = take a.n a.p.now in
    let e : length (digit_row p a.k) ≡ a.n = length-digit_row p a.k ∙ length-take-le a.n a.p.now (omega arith) in (
      omega arith,
      ap (put_bits (drop (l.j + 1) (digit_row p a.k)) (l.j + 1))
          (c.set_bit.ensures
          ∙ ap (set_bit l.row l.j) (and_mask _ 1 ∙ sym (digit_row-take a.n a.p.now a.k l.j (omega arith) (omega arith))))
          ∙ put_next (digit_row p a.k) l.j l.row (omega arith)
          ∙ l.invariant.1,
    )

pub shape_of-row : goal.shape_of-row
shape_of-row c = let l = c.loop-j in sym (length-put_bits _ l.j l.row) ∙ ap length l.invariant.1 ∙ length-put_bits _ 0 _

pub returns : goal.returns
returns c =
    let l = c.loop-j in
    let a = c.args in
    let p : List ℕ = take a.n a.p.now in
    let e : length (digit_row p a.k) ≡ a.n = length-digit_row p a.k ∙ length-take-le a.n a.p.now (omega arith) in
    sym (put_end (digit_row p a.k) l.j l.row (omega arith)) ∙ l.invariant.1
