-- The order of a key's conditions. Assumes nothing.
use mathlib.Core.Path.{◌≡◌, refl}
use mathlib.Core.Bool.{Bool, true, false, ◌||◌, true≢false}
use mathlib.Core.List.{[], ◌∷◌, map}
use Rattle.key.specs.Keys.{Key, conditions}

-- the numbers 1 to 7 in this order
pub conditions_order : (wrong_length : Bool) (k : Key) → map (λ c. c.1) (conditions wrong_length k) ≡ 1 ∷ 2 ∷ 3 ∷ 4 ∷ 5 ∷ 6 ∷ 7 ∷ []
unfolding conditions
conditions_order wrong_length k = refl

pub or_false : (a b : Bool) → a || b ≡ false → (a ≡ false) × (b ≡ false)
or_false true b e = absurd (true≢false e)
or_false false b e = (refl, e)
