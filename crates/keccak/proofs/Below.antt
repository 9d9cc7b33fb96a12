-- Lists of numbers below a bound; past the end the number is 0. Assumes nothing.
use mathlib.Core.Path.{◌≡◌}
use mathlib.Core.Bool.{true}
use mathlib.Core.List.{List, [], ◌∷◌, ◌++◌, map}
use Prim.Native.Nat.{ℕ, zero, suc, ◌<◌}
use borrow.Author.Tests.{ltb-true}
use lib.Dec.{ltb}
use lib.ListN.{get_or}
use Rattle.bits.specs.Bits.{from, every}
use Rattle.bits.proofs.Lists.{and_left, and_right}

module _ (c : ℕ) (some : 0 < c) where
  pub map_below : (f : ℕ → ℕ) → ((i : ℕ) → f i < c) → (k n i : ℕ) → get_or (map f (from k n)) i 0 < c
  unfolding from
  map_below f h k zero i = some
  map_below f h k (suc n) zero = h k
  map_below f h k (suc n) (suc i) = map_below f h (suc k) n i

  pub every_below : (l : List ℕ) → every (λ v. ltb v c) l ≡ true → (i : ℕ) → get_or l i 0 < c
  unfolding every
  every_below [] e i = some
  every_below (x ∷ l) e zero = ltb-true x c (and_left (ltb x c) (every (λ v. ltb v c) l) e)
  every_below (x ∷ l) e (suc i) = every_below l (and_right (ltb x c) (every (λ v. ltb v c) l) e) i

pub append_below : (c : ℕ) (l r : List ℕ) → ((i : ℕ) → get_or l i 0 < c) → ((i : ℕ) → get_or r i 0 < c) → (i : ℕ) → get_or (l ++ r) i 0 < c
append_below c [] r h k i = k i
append_below c (x ∷ l) r h k zero = h 0
append_below c (x ∷ l) r h k (suc i) = append_below c l r (λ i. h (suc i)) k i
