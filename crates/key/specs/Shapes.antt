-- Document 01, 'Keys': shapes (m, n, t), their limits and the standard's five. Assumes nothing.
use Rattle.std.specs.Prelude.{ℕ, ◌-◌, ◌*◌, ◌^◌, Bool, ◌&&◌, ◌||◌, List, [], ◌∷◌, leb, ltb, get_or}
use Rattle.field.specs.Numbers.{first_of}

-- t from 1 to 128 and m·t < n ≤ 2^m
unfoldable pub in_limits : ℕ → ℕ → ℕ → Bool
in_limits m n t = leb 1 t && leb t 128 && ltb (m * t) n && leb n (2 ^ m)

-- mceliece348864, 460896, 6688128, 6960119, 8192128
unfoldable pub shapes : List (ℕ × ℕ × ℕ)
shapes = (12, 3488, 64) ∷ (13, 4608, 96) ∷ (13, 6688, 128) ∷ (13, 6960, 119) ∷ (13, 8192, 128) ∷ []

-- 3: position not 1 to 5
unfoldable pub shape_number : ℕ → ℕ
shape_number p = first_of ((ltb p 1 || ltb 5 p, 3) ∷ [])

-- the shape at position 1 to 5
unfoldable pub shape_at : ℕ → ℕ × ℕ × ℕ
shape_at p = get_or shapes (p - 1) (0, 0, 0)
