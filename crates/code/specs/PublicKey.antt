-- Document 01, 'Code and public key': the public key, by the pivots of the reduced row-echelon form of H. Assumes nothing.
use Rattle.std.specs.Prelude.{ℕ, zero, suc, ◌*◌, Bool, true, false, cond, eqb, get_or, drop}
use mathlib.Core.List.{List, [], ◌∷◌, ◌++◌, map, flat_map}
use Rattle.std.proofs.Math.Option.{Option, none, some}
use Rattle.bits.specs.Bits.{from, pack, xor_row}
use Rattle.poly.specs.Polynomials.{same}
use Rattle.key.specs.Keys.{Key}
use Rattle.code.specs.Code.{parity_rows}

-- a matrix over two elements, as a list of rows of bits
abbrev pub Matrix : Type 0
Matrix = List (List ℕ)

-- a row with a one in a column, taken out of the rows; or there is none
pub data Pivot : Type 0 where
  missing : Pivot
  pivot : List ℕ → Matrix → Pivot

-- with one row more among the others
unfoldable pub with_row : List ℕ → Pivot → Pivot
with_row r missing = missing
with_row r (pivot p others) = pivot p (r ∷ others)

-- the first row with a one in column j
unfoldable pub find_pivot : ℕ → Matrix → Pivot
find_pivot j [] = missing
find_pivot j (r ∷ rs) = let later : Pivot = with_row r (find_pivot j rs) in cond (eqb (get_or r j 0) 1) (pivot r rs) later

-- row r with the row p added where r has a one in column j
unfoldable pub clear : ℕ → List ℕ → List ℕ → List ℕ
clear j p r = xor_row r (map (◌*◌ (get_or r j 0)) p)

-- the rows that have a pivot, the others, and the pivots' columns
pub record Echelon : Type 0 where
  pub done : Matrix
  pub rest : Matrix
  pub pivots : List ℕ

-- column j with its pivot: every other row is cleared there
unfoldable pub with_pivot : ℕ → Echelon → Pivot → Echelon
with_pivot j e missing = e
with_pivot j e (pivot p others) =
    record { done = map (clear j p) e.done ++ (p ∷ []); rest = map (clear j p) others; pivots = e.pivots ++ (j ∷ []) }

-- k columns from j on
unfoldable pub columns : ℕ → ℕ → Echelon → Echelon
columns zero j e = e
columns (suc k) j e = columns k (suc j) (with_pivot j e (find_pivot j e.rest))

-- the reduced row-echelon form of a matrix with n columns
unfoldable pub echelon : ℕ → Matrix → Echelon
echelon n rows = columns n 0 (record { done = []; rest = rows; pivots = [] })

-- T, the columns behind the first m·t, where these are independent: then they have the pivots, and are the identity
unfoldable pub public_key : Key → Option Matrix
public_key k =
    let e : Echelon = echelon k.n (parity_rows k) in
    elim (same e.pivots (from 0 (k.m * k.t))) [ true ↦ some (map (drop (k.m * k.t)) e.done) | false ↦ none ]

-- the first m·t columns of H are dependent
unfoldable pub dependent : Key → Bool
dependent k = elim (public_key k) [ none ↦ true | some rows ↦ false ]

-- T written row after row, each row packed
unfoldable pub written : Option Matrix → List ℕ
written none = []
written (some rows) = flat_map pack rows
