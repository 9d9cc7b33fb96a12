-- `key_file::pair` meets its contract. Assumes nothing.
use mathlib.Core.Path.{sym, ap₂}
use Prim.Native.Nat.{ℕ, ◌+◌, ◌*◌}
use native.Mathlib.Omega.{arith}
use lib.ListN.{get_or-eq_default}
use Rattle.key.specs.Keys.{pair}
use Rattle.key_file.proofs.pair.Goals as goal

pub returns-then-file-i : goal.returns-then-file-i
unfolding pair
returns-then-file-i c =
    let a = c.args in
    sym (ap₂ (λ (x y : ℕ). x + 256 * y) (get_or-eq_default a.file.now 0 c.if-file-i.true) (get_or-eq_default a.file.now 0 (omega (arith, c.if-file-i.true))))

pub returns : goal.returns
unfolding pair
returns c = ap₂ (λ (x y : ℕ). x + 256 * y) c.byte.ensures c.byte-2.ensures
