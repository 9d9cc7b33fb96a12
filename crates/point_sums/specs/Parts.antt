-- Terms of private functions' contracts. Assumes nothing.
use Rattle.std.specs.Prelude.{ℕ, ◌%◌, ◌^◌, List, [], ◌∷◌, get_or, set, replicate}
use Rattle.bits.specs.Xor.{◌⊕◌}

-- d with each weight added at the place of its point's m low digits, as far as both lists go
unfoldable pub added_at : ℕ → List ℕ → List ℕ → List ℕ → List ℕ
added_at m d [] points = d
added_at m d (x ∷ w) [] = d
added_at m d (x ∷ w) (a ∷ points) = added_at m (set d (a % 2 ^ m) (get_or d (a % 2 ^ m) 0 ⊕ x)) w points

-- zeros with them added, a place for each number below 8192
unfoldable pub scattered : ℕ → List ℕ → List ℕ → List ℕ
scattered m w points = added_at m (replicate 8192 0) w points
