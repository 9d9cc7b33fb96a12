-- What a byte picks, by whether it is 1. Assumes nothing.
use Prim.Native.Nat.{ℕ}
use mathlib.Core.Path.{◌≡◌, refl}
use lib.Dec.{eqb}
use borrow.Author.Tests.{eq-eqb, ne_eqb}
use Rattle.naming.specs.Picks.{known, pick}

-- the byte is 1, or not
module _ (b : ℕ) where
  pub known-first : b ≡ 1 → eqb b 1 ≡ known b
  unfolding known
  known-first e = rw e refl

  pub known_second : (b ≡ 1 → ⊥) → eqb b 2 ≡ known b
  unfolding known
  known_second e = rw (ne_eqb b 1 e) refl

  pub pick_first : {X : Type 0} (x y : X) → b ≡ 1 → x ≡ pick b x y
  unfolding pick
  pick_first x y e = rw (eq-eqb b 1 e) refl

  pub pick_second : {X : Type 0} (x y : X) → (b ≡ 1 → ⊥) → y ≡ pick b x y
  unfolding pick
  pick_second x y e = rw (ne_eqb b 1 e) refl
