-- A term of private functions' contracts. Assumes nothing.
use Rattle.std.specs.Prelude.{ℕ, ◌-◌, ◌<◌, ◌≡◌, List, get_or}

-- at the places from 1 to e - 1, w has the elements before s_n, the nearest first
abbrev pub Earlier : List ℕ → ℕ → ℕ → List ℕ → Type 0
Earlier s n e w = (k : ℕ) → 0 < k → k < e → get_or w k 0 ≡ get_or s (n - k) 0
