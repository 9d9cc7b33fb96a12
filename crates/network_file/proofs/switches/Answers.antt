-- `network_file::switches` meets its contract. Assumes nothing.
use native.Mathlib.Omega.{arith}
use Rattle.network_file.proofs.Digits.{switches_shifted}
use Rattle.network_file.proofs.switches.Goals as goal

pub returns : goal.returns
returns c = switches_shifted c.args.m (omega arith)
