-- Elimination in a workspace of packed rows, said by the reduced row-echelon form of its rows. Assumes nothing.
use Rattle.std.specs.Prelude.{ℕ, suc, ◌+◌, ◌-◌, ◌*◌, Bool, true, false, cond, ◌&&◌, List, [], ◌∷◌, ◌++◌, map, eqb, leb, length, get_or, take, drop}
use Rattle.bits.specs.Bits.{from, bytes_for, bit_at, unpack, xor_row}
use Rattle.poly.specs.Polynomials.{same}
use Rattle.code.specs.PublicKey.{Matrix, Pivot, missing, pivot, find_pivot, Echelon, with_pivot, echelon}
use Rattle.code.specs.Lock.{rows_of}

-- the sizes: not more rows than columns, at most 8192 columns, and the rows lie in the workspace
unfoldable pub fits : ℕ → ℕ → List ℕ → Bool
fits rows n w = leb rows n && leb n 8192 && leb (rows * bytes_for n) (length w)

-- the first `rows` columns are independent: they have the pivots
unfoldable pub eliminates : ℕ → ℕ → List ℕ → Bool
eliminates rows n w = fits rows n w && same (echelon n (rows_of rows n w)).pivots (from 0 rows)

-- the number of rows before the first with a one in column j
unfoldable pub pivot_row : ℕ → Matrix → ℕ
pivot_row j [] = 0
pivot_row j (r ∷ rs) = let later : ℕ = pivot_row j rs in cond (eqb (get_or r j 0) 1) 0 (suc later)

-- the first k bytes moved up by b places; the first b bytes stay too
unfoldable pub moved_up : ℕ → ℕ → List ℕ → List ℕ
moved_up k b w = take b w ++ (take k w ++ drop (k + b) w)

-- the row of b bytes from index k on, moved to the front
unfoldable pub to_front : ℕ → ℕ → List ℕ → List ℕ
to_front k b w = take b (drop k w) ++ (take k w ++ drop (k + b) w)

-- the bytes w, with the row t added to their front where that has a one in column j
unfoldable pub clear_front : ℕ → List ℕ → List ℕ → List ℕ
clear_front j t w = xor_row w (map (◌*◌ (bit_at w j)) t)

-- the first of k rows taken for the pivot, or none
unfoldable pub first_row : Bool → ℕ → ℕ → List ℕ → Pivot
first_row false k n w = missing
first_row true k n w = pivot (unpack n w) (rows_of (k - 1) n (drop (bytes_for n) w))

-- i rows that have their pivots in the columns 0 to i-1, and the other rows
unfoldable pub stage : ℕ → ℕ → ℕ → List ℕ → Echelon
stage i rows n w = record { done = rows_of i n w; rest = rows_of (rows - i) n (drop (i * bytes_for n) w); pivots = from 0 i }

-- column i, where row i has its pivot
unfoldable pub pivoted : ℕ → ℕ → ℕ → List ℕ → Echelon
pivoted i rows n w = with_pivot i (stage i rows n w) (first_row true (rows - i) n (drop (i * bytes_for n) w))

-- column i, where a row from row i on has its pivot, or none has
unfoldable pub stepped : ℕ → ℕ → ℕ → List ℕ → Echelon
stepped i rows n w = with_pivot i (stage i rows n w) (find_pivot i (stage i rows n w).rest)

-- one more, where there was a pivot
unfoldable pub next : Bool → ℕ → ℕ
next false i = i
next true i = i + 1
