-- How a table is made, row after row. Terms of private functions' contracts. Assumes nothing.
use Rattle.std.specs.Prelude.{ℕ, ◌+◌, ◌*◌, ◌≤◌, ◌<◌, ◌≡◌, ◌⊎◌, List, [], ◌∷◌, length, get_or}
use Rattle.bits.specs.Xor.{◌⊕◌}
use Rattle.field.specs.Field.{mul}
use Rattle.row_tables.specs.RowTable.{factor_at}

-- the earlier row, and the power of z, whose multiples added make row q
unfoldable pub earlier_rows : List ℕ
earlier_rows =
    0 ∷ 0 ∷ 0 ∷ 1 ∷ 0 ∷ 1 ∷ 2 ∷ 3 ∷ 0 ∷ 1 ∷ 2 ∷ 3 ∷ 4 ∷ 5 ∷ 6 ∷ 7
    ∷ 1 ∷ 16 ∷ 16 ∷ 17 ∷ 16 ∷ 17 ∷ 18 ∷ 19
    ∷ 1 ∷ 24 ∷ 24 ∷ 25 ∷ 24 ∷ 25 ∷ 26 ∷ 27
    ∷ 1 ∷ 32 ∷ 32 ∷ 33 ∷ 32 ∷ 33 ∷ 34 ∷ 35
    ∷ []

unfoldable pub digit_places : List ℕ
digit_places =
    0 ∷ 0 ∷ 1 ∷ 1 ∷ 2 ∷ 2 ∷ 2 ∷ 2 ∷ 3 ∷ 3 ∷ 3 ∷ 3 ∷ 3 ∷ 3 ∷ 3 ∷ 3
    ∷ 0 ∷ 4 ∷ 5 ∷ 5 ∷ 6 ∷ 6 ∷ 6 ∷ 6
    ∷ 0 ∷ 7 ∷ 8 ∷ 8 ∷ 9 ∷ 9 ∷ 9 ∷ 9
    ∷ 0 ∷ 10 ∷ 11 ∷ 11 ∷ 12 ∷ 12 ∷ 12 ∷ 12
    ∷ []

-- k numbers from place `at` on are those from place s on plus row j of t
pub record Put (t : List ℕ) (j s at k : ℕ) (l l' : List ℕ) : Type 0 where
  pub size : length l' ≡ length l
  pub inside : (i : ℕ) → i < k → get_or l' (at + i) 0 ≡ get_or l (s + i) 0 ⊕ get_or t (64 * j + i) 0
  pub others : (x : ℕ) → (x < at) ⊎ (at + k ≤ x) → get_or l' x 0 ≡ get_or l x 0

-- k numbers from place `at` on are 0
pub record Zeroed (at k : ℕ) (l l' : List ℕ) : Type 0 where
  pub size : length l' ≡ length l
  pub inside : (i : ℕ) → i < k → get_or l' (at + i) 0 ≡ 0
  pub others : (x : ℕ) → (x < at) ⊎ (at + k ≤ x) → get_or l' x 0 ≡ get_or l x 0

-- in the 64 columns from h on, e rows are the multiples of a's coefficients
pub record Columns (m : ℕ) (a : List ℕ) (h e : ℕ) (l : List ℕ) : Type 0 where
  pub size : length l ≡ 5120
  pub entries : (q i : ℕ) → q < e → i < 64 → get_or l (128 * q + h + i) 0 ≡ mul m (get_or a i 0) (factor_at q)
