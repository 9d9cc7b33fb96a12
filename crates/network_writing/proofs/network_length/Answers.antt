-- Assumes nothing.
use mathlib.Core.Path.{ap}
use Prim.Native.Nat.{ℕ, ◌+◌, ◌*◌}
use native.Mathlib.Omega.{arith}
use Rattle.network_file.proofs.Digits.{switches_small}
use Rattle.network_writing.proofs.network_length.Goals as goal

pub overflow_add-result-2 : goal.overflow_add-result-2
overflow_add-result-2 c = omega (arith, c.row_length.ensures, switches_small c.args.m (omega arith))

pub returns : goal.returns
returns c = ap (λ (b : ℕ). 9 + 2 * c.args.t + b) c.row_length.ensures
