-- `opener::longest` meets its contract. Assumes nothing.
use Prim.Native.Nat.{ℕ}
use mathlib.Core.Path.{◌≡◌, refl, sym}
use lib.ListN.{length, replicate, length-replicate}
use Rattle.opener.proofs.longest.Goals as goal

-- for any length: the numeral below is not counted down
sized : (n : ℕ) → n ≡ length (replicate {A = ℕ} n 0)
sized n = sym (length-replicate n 0)

pub returns : goal.returns
returns c = record { zeros = refl; size = sized 1114176 }
