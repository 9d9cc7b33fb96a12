-- The bits are put into bytes that are 0. Assumes nothing.
use mathlib.Core.Path.{sym, ap, ◌∙◌}
use mathlib.Core.List.{List, map}
use Prim.Native.Nat.{ℕ}
use native.Mathlib.Omega.{arith}
use lib.ListN.{replicate}
use Rattle.bits.specs.Bits.{from, bit_at, put_bits, over}
use Rattle.bits.proofs.Bits.{bit_digit}
use Rattle.bits.proofs.Pack.{row_map}
use Rattle.bits.proofs.PutBits.{put-over, written_none, written_row}
use Rattle.packed.proofs.write_row.Goals as goal

pub returns-then-out-n : goal.returns-then-out-n
returns-then-out-n c = let a = c.args in sym (written_none a.s.now a.b a.w a.out.now (omega arith))

pub returns : goal.returns
returns c =
    let a = c.args in
    let bits : List ℕ = map (bit_at a.s.now) (from a.b a.w) in
    c.copy_row.ensures
    ∙ ap (put_bits bits 0)
    (c.clear_bytes.ensures
    ∙ ap (λ (n : ℕ). over (replicate n 0) a.out.now) c.bytes_for-n.ensures)
    ∙ put-over a.out.now (row_map (bit_at a.s.now) (bit_digit a.s.now) a.b a.w)
    ∙ sym (written_row a.s.now a.b a.w a.out.now (omega arith))
