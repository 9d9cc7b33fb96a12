-- What the calls answer. Assumes nothing.
use Rattle.std.specs.Prelude.{ℕ, Bool, ◌&&◌, List, [], ◌∷◌, leb, length}
use Rattle.bits.specs.Bits.{every}
use Rattle.field.specs.Field.{is_width, is_element}
use Rattle.factors.specs.Factors.{has_factor}
use Rattle.key.specs.Keys.{Key, unsound, reducible}

-- what the test answers: false where the width, the length or an element is out of bounds
unfoldable pub factor_test : ℕ → List ℕ → Bool
factor_test m g = is_width m && leb (length g) 128 && every (is_element m) g && has_factor m g

-- 25, 34: what every form of publish and open asks of the kept key first
unfoldable pub exchange_checks : Key → List (Bool × ℕ)
exchange_checks k = (unsound k, 25) ∷ (reducible k, 34) ∷ []
