-- `network_file::four` meets its contract. Assumes nothing.
use mathlib.Core.Path.{ap₂}
use Prim.Native.Nat.{ℕ, ◌+◌, ◌*◌}
use Rattle.network_key.specs.Files.{four}
use Rattle.network_file.proofs.four.Goals as goal

pub returns : goal.returns
unfolding four
returns c = ap₂ (λ (x y : ℕ). x + 65536 * y) c.pair.ensures c.pair-2.ensures
