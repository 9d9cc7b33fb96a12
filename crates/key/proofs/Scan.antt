-- A test of every number of a list. Assumes nothing.
use mathlib.Core.Path.{◌≡◌, refl, ap₂, ◌∙◌}
use mathlib.Core.Bool.{Bool, true, false, ◌&&◌}
use mathlib.Core.List.{List, [], ◌∷◌}
use Prim.Native.Nat.{ℕ}
use Rattle.bits.specs.Bits.{every}

-- two tests in one
pub every_both : (p q r : ℕ → Bool) → ((x : ℕ) → p x && q x ≡ r x) → (l : List ℕ) → every p l && every q l ≡ every r l
unfolding every
every_both p q r h [] = refl
every_both p q r h (x ∷ l) = swap (p x) (q x) (every p l) (every q l) ∙ ap₂ ◌&&◌ (h x) (every_both p q r h l)
  where
    swap : (a b c d : Bool) → (a && c) && (b && d) ≡ (a && b) && (c && d)
    swap true true c d = refl
    swap true false true d = refl
    swap true false false d = refl
    swap false b c d = refl

pub every_true : (p : ℕ → Bool) → ((x : ℕ) → p x ≡ true) → (l : List ℕ) → every p l ≡ true
unfolding every
every_true p h [] = refl
every_true p h (x ∷ l) = ap₂ ◌&&◌ (h x) (every_true p h l)
