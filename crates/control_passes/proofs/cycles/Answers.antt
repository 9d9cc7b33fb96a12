-- The three passes give the least members of the cycles. Assumes nothing.
use native.Mathlib.Omega.{arith}
use Rattle.control_passes.proofs.Connect.{size, each_len, size_small, size_even, inv_below, p_below, cyc_is}
use Rattle.control_passes.proofs.cycles.Goals as goal

pub put_inverse-requires : goal.put_inverse-requires
put_inverse-requires c =
    let e = size c.args.k c.args.pi.now c.requires.level in
    record { each = each_len c.args.k c.args.pi.now c.requires.level; pi_in_bounds = (omega arith, size_small c.args.k c.args.pi.now c.requires.level) }

pub begin-requires : goal.begin-requires
begin-requires c = let e = size c.args.k c.args.pi.now c.requires.level in record { pi_in_bounds = (omega arith, omega arith, omega arith); pi_len_bound = (size_small c.args.k c.args.pi.now c.requires.level, size_even c.args.k c.args.pi.now c.requires.level); by_index = inv_below c.args.k c.args.pi.now c.requires.level c.put_inverse.new.inv c.put_inverse.ensures }

pub rounds-requires : goal.rounds-requires
rounds-requires c = let e = size c.args.k c.args.pi.now c.requires.level in record { n_in_bounds = (omega arith, omega arith, omega arith, omega arith); by_index = p_below c.args.k c.args.pi.now c.requires.level c.put_inverse.new.inv c.put_inverse.ensures c.begin.new.p c.begin.ensures.tab; tab = c.begin.ensures.tab_2 }

pub returns : goal.returns
returns c =
    cyc_is c.args.k c.args.pi.now c.requires.level c.put_inverse.new.inv c.put_inverse.ensures c.begin.new.p c.begin.ensures.tab
    c.rounds.new.c c.rounds.ensures
