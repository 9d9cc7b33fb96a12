-- The sizes of a workspace: when they fit, and when not. Assumes nothing.
use mathlib.Core.Path.{◌≡◌, ap, ◌∙◌}
use mathlib.Core.Bool.{true, false, ◌&&◌, and-false}
use mathlib.Core.List.{List}
use Prim.Native.Nat.{ℕ, ◌*◌, ◌≤◌, ◌<◌}
use native.Mathlib.Nat.{le_trans, mul-le-mul_left, mul-le-mul_right}
use lib.Dec.{leb}
use lib.ListN.{length}
use borrow.Author.Tests.{le-leb, lt-leb}
use Rattle.bits.specs.Bits.{from, bytes_for}
use Rattle.poly.specs.Polynomials.{same}
use Rattle.bits.proofs.Parts.{row_size}
use Rattle.code.specs.PublicKey.{echelon}
use Rattle.code.specs.Lock.{rows_of}
use Rattle.elimination.specs.Elimination.{fits, eliminates}

pub sizes-le : (rows n b : ℕ) → rows ≤ 8192 → n ≤ 8192 → b ≡ bytes_for n → rows * b ≤ 8192 * 1024
sizes-le rows n b h l e = rw e (le_trans (mul-le-mul_right (bytes_for n) h) (mul-le-mul_left 8192 (row_size n l)))

module _ (rows n : ℕ) (w : List ℕ) where
  pub more_rows : n < rows → fits rows n w ≡ false
  unfolding fits
  more_rows h = rw (lt-leb rows n h)

  pub more_columns : 8192 < n → fits rows n w ≡ false
  unfolding fits
  more_columns h = rw (lt-leb n 8192 h, and-false)

  pub less_room : length w < rows * bytes_for n → fits rows n w ≡ false
  unfolding fits
  less_room h = ap (◌&&◌ (leb rows n && leb n 8192)) (lt-leb (rows * bytes_for n) (length w) h) ∙ and-false (leb rows n && leb n 8192)

  pub sizes_fit : rows ≤ n → n ≤ 8192 → rows * bytes_for n ≤ length w → fits rows n w ≡ true
  unfolding fits
  sizes_fit h l k = rw (le-leb rows n h, le-leb n 8192 l, le-leb (rows * bytes_for n) (length w) k)

  pub not_eliminated : fits rows n w ≡ false → false ≡ eliminates rows n w
  unfolding eliminates
  not_eliminated e = rw e

  pub eliminated : fits rows n w ≡ true → same (echelon n (rows_of rows n w)).pivots (from 0 rows) ≡ eliminates rows n w
  unfolding eliminates
  eliminated e = rw e
