-- Assumes nothing.
use mathlib.Core.Path.{◌≡◌, ap, ◌∙◌}
use Prim.Native.Nat.{ℕ, ◌+◌, ◌-◌}
use native.Mathlib.Omega.{arith}
use borrow.Rule.Slice.PartMut.{same_len_mid, mid_len}
use lib.Seq.{sets}
use Rattle.bits.specs.Bits.{bytes_for}
use Rattle.network.specs.Network.{switches}
use Rattle.network_writing.proofs.Head.{sets_part}
use Rattle.network_writing.proofs.put_row.Goals as goal

pub overflow_add-end : goal.overflow_add-end
overflow_add-end c = omega (arith, c.row_length.ensures)

pub slice_bounds-write_control_bits-end : goal.slice_bounds-write_control_bits-end
slice_bounds-write_control_bits-end c = omega (arith, c.row_length.ensures)

pub write_control_bits-requires : goal.write_control_bits-requires
write_control_bits-requires c =
    let a = c.args in
    let e = c.row_length.ensures in
    let w : ℕ = a.at + c.row_length.result in
    record { le_m = c.requires.le_m; each = c.requires.each; row_len = mid_len a.at w a.out.now (omega arith) ∙ (let d : w - a.at ≡ bytes_for (switches a.m) = omega arith in d) }

pub shape_of-out : goal.shape_of-out
shape_of-out c =
    let a = c.args in
    same_len_mid a.at (a.at + c.row_length.result - a.at) a.out.now c.write_control_bits.new.row c.write_control_bits.auto.row

pub returns : goal.returns
returns c =
    let a = c.args in
    let e = c.row_length.ensures in
    let w : ℕ = a.at + c.row_length.result in
    sets_part a.out.now c.write_control_bits.new.row a.at w (omega arith) (omega arith)
    (c.write_control_bits.auto.row ∙ mid_len a.at w a.out.now (omega arith))
    ∙ ap (sets a.out.now a.at) c.write_control_bits.ensures
