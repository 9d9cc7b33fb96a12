-- `first_of` gives the number of the first condition that holds, and 0 where none does. Assumes nothing.
use Prim.Native.Nat.{ℕ, suc, ◌<◌}
use mathlib.Core.Path.{◌≡◌, refl, subst}
use mathlib.Core.Bool.{Bool, true, false, ◌&&◌}
use mathlib.Core.List.{List, [], ◌∷◌, ◌++◌}
use native.Mathlib.Omega.{arith}
use lib.Dec.{ltb}
use borrow.Author.Tests.{ltb-true}
use Rattle.bits.proofs.Lists.{and_left, and_right}
use Rattle.field.specs.Numbers.{first_of, First, Clear}
use Rattle.field.specs.Numbers as Numbers

pub first_holds : (n : ℕ) (cs : List (Bool × ℕ)) → first_of ((true, n) ∷ cs) ≡ n
unfolding first_of
first_holds n cs = refl

pub first_later : (n : ℕ) (cs : List (Bool × ℕ)) → first_of ((false, n) ∷ cs) ≡ first_of cs
unfolding first_of
first_later n cs = refl

-- a number comes from the first condition that holds
pub first_of_lem : (cs : List (Bool × ℕ)) (n : ℕ) → first_of cs ≡ suc n → First cs (suc n)
unfolding first_of
first_of_lem [] n e = absurd (omega arith)
first_of_lem (c ∷ cs) n e = go c.0 c.1 (first_of_lem cs n) e
  where
    go : (b : Bool) (k : ℕ) → (first_of cs ≡ suc n → First cs (suc n)) → first_of ((b, k) ∷ cs) ≡ suc n → First ((b, k) ∷ cs) (suc n)
    go true k ih e = subst (λ (i : ℕ). First ((true, k) ∷ cs) i) e Numbers.holds
    go false k ih e = Numbers.later (ih e)

-- every number of the list is over 0
unfoldable pub numbered : List (Bool × ℕ) → Bool
numbered [] = true
numbered (c ∷ cs) = ltb 0 c.1 && numbered cs

-- 0 says that no condition holds
pub clear_of : (cs : List (Bool × ℕ)) → numbered cs ≡ true → first_of cs ≡ 0 → Clear cs
unfolding first_of numbered
clear_of [] p e = Numbers.end
clear_of (c ∷ cs) p e = go c.0 c.1 (clear_of cs (and_right (ltb 0 c.1) (numbered cs) p)) (ltb-true 0 c.1 (and_left (ltb 0 c.1) (numbered cs) p)) e
  where
    go : (b : Bool) (k : ℕ) → (first_of cs ≡ 0 → Clear cs) → 0 < k → first_of ((b, k) ∷ cs) ≡ 0 → Clear ((b, k) ∷ cs)
    go true k ih h e = absurd (omega arith)
    go false k ih h e = Numbers.later (ih e)

-- 0 of a list with a numbered condition in front: that does not hold, and the others give 0
pub first-clear : (b : Bool) (n : ℕ) (cs : List (Bool × ℕ)) → first_of ((b, suc n) ∷ cs) ≡ 0 → (b ≡ false) × (first_of cs ≡ 0)
unfolding first_of
first-clear true n cs e = absurd (omega arith)
first-clear false n cs e = (refl, e)

-- conditions of which none holds leave the number to those behind them
pub first-append : (cs ds : List (Bool × ℕ)) → numbered cs ≡ true → first_of cs ≡ 0 → first_of (cs ++ ds) ≡ first_of ds
unfolding first_of numbered
first-append [] ds p e = refl
first-append (c ∷ cs) ds p e = go c.0 c.1 (first-append cs ds (and_right (ltb 0 c.1) (numbered cs) p)) (ltb-true 0 c.1 (and_left (ltb 0 c.1) (numbered cs) p)) e
  where
    go : (b : Bool) (k : ℕ) → (first_of cs ≡ 0 → first_of (cs ++ ds) ≡ first_of ds) → 0 < k → first_of ((b, k) ∷ cs) ≡ 0 → first_of ((b, k) ∷ (cs ++ ds)) ≡ first_of ds
    go true k ih h e = absurd (omega arith)
    go false k ih h e = ih e
