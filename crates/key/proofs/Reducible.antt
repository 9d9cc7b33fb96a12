-- An accepted key is reducible exactly where some polynomial of degree 1 to t - 1 divides its g. Assumes nothing.
use Prim.Native.Nat.{ℕ}
use mathlib.Core.Path.{◌≡◌}
use mathlib.Core.Logic.{◌↔◌}
use mathlib.Core.Bool.{true}
use mathlib.Core.List.{List}
use Rattle.factors.specs.Divides.{ProperFactor}
use Rattle.factors.proofs.Divides.{factor_exactly}
use Rattle.key.specs.Keys.{Key, key_number, reducible}
use Rattle.key.proofs.Accepted.{Accepted, accepted}

pub reducible-exactly : (k : Key) → key_number k ≡ 0 → (reducible k ≡ true) ↔ ((q : List ℕ) × (r : List ℕ) × ProperFactor k.m k.g q r)
unfolding reducible
reducible-exactly k good = let a : Accepted k = accepted k good in factor_exactly k.m a.width k.g a.g_below
