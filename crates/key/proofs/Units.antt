-- Condition 7: g(α) has an inverse for each α of an accepted key's support. Assumes nothing.
use mathlib.Core.Path.{◌≡◌, ap, ◌∙◌}
use mathlib.Core.Bool.{true}
use mathlib.Core.List.{map}
use Prim.Native.Nat.{ℕ, ◌<◌}
use native.Mathlib.Omega.{arith}
use lib.ListN.{length, get_or, length-map}
use Rattle.bits.specs.Bits.{every}
use Rattle.bits.proofs.Lists.{every_all, map_at}
use Rattle.field.specs.Answers.{is_unit}
use Rattle.field.proofs.Units.{element_unit}
use Rattle.key.specs.Keys.{Key, goppa_at}
use Rattle.key.proofs.Accepted.{Accepted}
use Rattle.key.proofs.Goppa.{goppa_lt}

pub goppa_units : (k : Key) → Accepted k → every (is_unit k.m) (map (goppa_at k) k.support) ≡ true
goppa_units k A = every_all (is_unit k.m) (map (goppa_at k) k.support) 0 (λ i h. at i (omega (arith, length-map k.support (goppa_at k))))
  where
    at : (i : ℕ) → i < length k.support → is_unit k.m (get_or (map (goppa_at k) k.support) i 0) ≡ true
    at i h =
        let n : length k.support ≡ k.n = A.support_length in
        ap (is_unit k.m) (map_at (goppa_at k) k.support i 0 0 h)
        ∙ element_unit k.m (goppa_at k (get_or k.support i 0)) (goppa_lt k A (get_or k.support i 0)) (A.no_root_lem i (omega arith))
