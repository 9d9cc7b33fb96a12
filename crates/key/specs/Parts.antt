-- The parts of a key's check. Assumes nothing.
use Rattle.std.specs.Prelude.{ℕ, Bool, not, ◌&&◌, List, [], ◌∷◌, ◌++◌, eqb, ltb, length, take}
use Rattle.bits.specs.Bits.{every}
use Rattle.field.specs.Numbers.{first_of}
use Rattle.field.specs.Field.{is_element}
use Rattle.field.specs.Poly.{value}
use Rattle.poly.specs.Polynomials.{monic, has_square}
use Rattle.key.specs.Keys.{Key, distinct, conditions}

-- each number is below n, and none stands twice
unfoldable pub distinct_below : ℕ → List ℕ → Bool
distinct_below n s = every (λ x. ltb x n) s && distinct s

-- no g(a) is 0, a from the list
unfoldable pub no_root : ℕ → List ℕ → List ℕ → Bool
no_root m g s = every (λ a. not (eqb (value m (monic g) a) 0)) s

-- 4: an element 2^m or more; 5: one twice; 6: a square divides g; 7: some g(α_i) is 0
unfoldable pub faults : ℕ → List ℕ → List ℕ → List (Bool × ℕ)
faults m s g = (not (every (is_element m) (s ++ g)), 4) ∷ (not (distinct s), 5) ∷ (has_square m g, 6) ∷ (not (no_root m g s), 7) ∷ []

-- the first of the numbers 1 to 3 of a key that is kept, and of 1 to 6, as `key_number` has them
unfoldable pub head_number : Key → ℕ
head_number k = first_of (take 3 (conditions (not (eqb (length k.support) k.n && eqb (length k.g) k.t)) k))

unfoldable pub number_but_roots : Key → ℕ
number_but_roots k = first_of (take 6 (conditions (not (eqb (length k.support) k.n && eqb (length k.g) k.t)) k))
