-- What the rows hold: images, and the elimination's state. Terms of private functions' contracts. Assumes nothing.
use Rattle.std.specs.Prelude.{ℕ, suc, ◌+◌, ◌-◌, ◌≤◌, ◌<◌, ◌≡◌, List, map, length, get_or, set}
use Rattle.bits.specs.Xor.{◌⊕◌}
use Rattle.algebra.proofs.Series.{Series}
use Rattle.field.specs.Field.{mul, inv}
use Rattle.field.proofs.Table.{Width}
use Rattle.field.proofs.Gf.{Elem, gf}
use Rattle.field.proofs.Arrays.{Elements, poly}
use Rattle.poly.specs.Polynomials.{monic}
use Rattle.poly.proofs.Product.{poly_monic}
use Rattle.algebra.proofs.Rank.{Row, reduced, power, Image, State}
use Rattle.field.proofs.FiniteField.{finite}
use Rattle.row_tables.specs.RowTable.{table_of}
use Rattle.irreducible.specs.Rows.{row_at, Added}

-- 1 is added in row r at r + 1, for r below k
pub record Shifted (n k : ℕ) (l l' : List ℕ) : Type 0 where
  pub size : length l' ≡ length l
  pub inside : (r : ℕ) → r < k → row_at n l' r ≡ set (row_at n l r) (suc r) (get_or (row_at n l r) (suc r) 0 ⊕ 1)
  pub others : (r : ℕ) → k ≤ r → row_at n l' r ≡ row_at n l r

-- p is the first place of r that is not 0, or the length
pub record Pivot (p : ℕ) (r : List ℕ) : Type 0 where
  pub bound : p ≤ length r
  pub zeros : (k : ℕ) → k < p → get_or r k 0 ≡ 0
  pub found : p < length r → ¬ (get_or r p 0 ≡ 0)

-- the rows behind row i are 0 at row i's pivot
pub record Cleared (m n i : ℕ) (l l' : List ℕ) : Type 0 where
  pub place : ℕ
  pub small : place < n
  pub nonzero : ¬ (get_or (row_at n l i) place 0 ≡ 0)
  pub added : Added (table_of m (map (mul m (inv m (get_or (row_at n l i) place 0))) (row_at n l i))) n place (i + 1) (n - (i + 2)) l l'

-- row r is what is left of the image of x^(r + 1)
pub record Left (m : ℕ) (W : Width m) (g : List ℕ) (B : List (Row (gf m W))) (r : ℕ) (y : Series (Elem m)) : Type 0 where
  pub image : Series (Elem m)
  pub of : Image (gf m W) (finite m W) (length g) (poly m (monic g)) (poly_monic m W g) (power (gf m W) (suc r)) image
  pub same : y ≡ reduced (gf m W) B image

-- after i rows
pub record Basis (m : ℕ) (W : Width m) (g : List ℕ) (i : ℕ) (l : List ℕ) : Type 0 where
  pub rows : List (Row (gf m W))
  pub state : State (gf m W) (finite m W) (length g) (poly m (monic g)) (poly_monic m W g) i rows
  pub elements : (r : ℕ) → i ≤ r → suc r < length g → Elements m (row_at (length g) l r)
  pub later : (r : ℕ) → i ≤ r → suc r < length g → Left m W g rows r (poly m (row_at (length g) l r))
