-- The array as a slice. Assumes nothing.
use mathlib.Core.Path.{◌≡◌}
use native.Mathlib.Omega.{arith}
use lib.ListN.{length}
use borrow.Author.Rules.{rules}
use Rattle.control_bits.proofs.Written.{few}
use Rattle.control_bits.proofs.write_control_bits.Goals as goal

pub control_row-requires : goal.control_row-requires
control_row-requires c =
    let l : length c.args.values.now ≡ 8192 = search rules in
    record { le_m = c.requires.le_m; m_in_bounds = (omega (arith, l, few c.args.m c.requires.le_m.1), c.requires.each); row_len = c.requires.row_len }
