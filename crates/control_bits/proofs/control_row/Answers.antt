-- The row's bits are the control bits, by the laws of `Written`. Assumes nothing.
use mathlib.Core.Path.{sym, subst}
use Prim.Native.Nat.{ℕ, ◌-◌, ◌^◌}
use native.Mathlib.Omega.{arith}
use lib.ListN.{take}
use lib.Seq.{length-take-le}
use Rattle.network.specs.Network.{val, seek}
use Rattle.network.specs.Tables.{Each}
use Rattle.control_passes.specs.Passes.{Done}
use Rattle.control_bits.proofs.Written.{few, shifted, fits_row, row_small, row_written_lem}
use Rattle.control_bits.proofs.control_row.Goals as goal

pub slice_bounds-control-end-2 : goal.slice_bounds-control-end-2
slice_bounds-control-end-2 c =
    let e = shifted c.args.m c.requires.le_m.1 in
    sym (length-take-le _ c.args.values.now (omega (arith, e, c.requires.m_in_bounds.0)))

pub control-requires : goal.control-requires
control-requires c =
    let m = c.args.m in
    let e = shifted m c.requires.le_m.1 in
    let f = few m c.requires.le_m.1 in record {
      level = record {
        each = subst (λ (n : ℕ). Each (2 ^ m) (take n c.args.values.now)) (sym e) c.requires.m_in_bounds.1;
        some = omega arith;
        small = omega arith;
      };
      work = record { inv_fits = f; p_fits = f; c_fits = f; p2_fits = f; c2_fits = omega (arith, f) };
      fits = fits_row m c.requires.le_m.0 c.args.row.now c.requires.row_len;
      step_nonzero = (omega arith, row_small m c.requires.le_m.0 c.args.row.now c.requires.row_len c.requires.le_m.1);
    }

pub returns : goal.returns
returns c =
    let k = c.control in
    let v = c.args.values.now in
    let e = shifted c.args.m c.requires.le_m.1 in
    row_written_lem c.args.m c.requires.le_m.0 k.new.b (omega (arith, k.auto, c.requires.row_len)) (take (2 ^ c.args.m) v) c.args.row.now
    (subst (λ (n : ℕ). Done (c.args.m - 1) 0 1 (val (take n v)) (seek (val (take n v)) (2 ^ c.args.m)) c.args.row.now k.new.b) e k.ensures)
