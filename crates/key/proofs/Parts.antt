-- A kept key by its parts. Assumes nothing.
use mathlib.Core.Path.{◌≡◌, ap₂}
use Prim.Native.Nat.{ℕ}
use lib.ListN.{length, take}
use Rattle.key.specs.Keys.{key_number, key_of}
use Rattle.key.specs.Keys as Keys
use Rattle.key.specs.Kept.{kept}
use Rattle.key.specs.declared.kept.Key.{Key}
use Rattle.key.proofs.Accepted.{Accepted, accepted}

pub key_of-parts : (k : Key) → length (take k.n k.support) ≡ k.n → length (take k.t k.g) ≡ k.t
    → key_of k.m (take k.n k.support) (take k.t k.g) ≡ kept k
unfolding key_of kept
key_of-parts k n t =
    ap₂ {C = Keys.Key} (λ (n t : ℕ). record { m = k.m; n = n; t = t; support = take k.n k.support; g = take k.t k.g }) n t

module _ (k : Key) (z : key_number (kept k) ≡ 0) where
  pub kept-sizes : (length (take k.n k.support) ≡ k.n) × (length (take k.t k.g) ≡ k.t)
  unfolding kept
  kept-sizes = let A : Accepted (kept k) = accepted (kept k) z in (A.support_length, A.g_length)

  pub key_of-kept : key_of k.m (take k.n k.support) (take k.t k.g) ≡ kept k
  key_of-kept = key_of-parts k kept-sizes.0 kept-sizes.1
