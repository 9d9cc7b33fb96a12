-- The public key's shape: m·t rows of n - m·t bits, so a capsule has m·t bits. Assumes nothing.
use mathlib.Core.Path.{◌≡◌, refl, sym, ap, ◌∙◌, subst}
use mathlib.Core.Bool.{Bool, true, false}
use mathlib.Core.List.{List, [], ◌∷◌, map}
use mathlib.Core.Option.{Option, none, some}
use Prim.Native.Nat.{ℕ, zero, suc, ◌+◌, ◌-◌, ◌*◌, ◌≤◌}
use native.Mathlib.Omega.{arith}
use lib.ListN.{length, drop, length-map, length-append, length-drop}
use Rattle.bits.specs.Bits.{Row, from}
use Rattle.bits.proofs.Lists.{length_from, drop_below}
use Rattle.bits.proofs.Pack.{row_lt, row_length, row_of_lem}
use Rattle.poly.specs.Polynomials.{same}
use Rattle.poly.proofs.Laws.{same_eq}
use Rattle.key.specs.Keys.{Key}
use Rattle.code.specs.Code.{parity_rows}
use Rattle.code.specs.PublicKey.{Matrix, Pivot, missing, pivot, find_pivot, clear, Echelon, with_pivot, columns, echelon, public_key}
use Rattle.code.specs.Lock.{locked}
use Rattle.code.proofs.Kernel.{Rows, echelon-bits, rows_parity_rows, row_locked}
use Rattle.code.proofs.Kernel as kernel

-- the rows without their first d bits
pub rows_drop : {n : ℕ} {rs : Matrix} (d : ℕ) → Rows n rs → Rows (n - d) (map (drop d) rs)
rows_drop d kernel.none = kernel.none
rows_drop {n} d (kernel.row {r = r} a m) =
    let l : length (drop d r) ≡ n - d = length-drop d r ∙ ap (λ (i : ℕ). i - d) (row_length a) in
    kernel.row (subst (λ (i : ℕ). Row i (drop d r)) l (row_of_lem (drop d r) (drop_below 2 d r (row_lt a)))) (rows_drop d m)

-- there are as many rows with a pivot as pivots
step_count : (j : ℕ) (e : Echelon) (q : Pivot) → length e.done ≡ length e.pivots → length (with_pivot j e q).done ≡ length (with_pivot j e q).pivots
unfolding with_pivot
step_count j e missing h = h
step_count j e (pivot p others) h =
    length-append (map (clear j p) e.done) (p ∷ [])
    ∙ ap (λ (i : ℕ). i + 1) (length-map e.done (clear j p) ∙ h)
    ∙ sym (length-append e.pivots (j ∷ []))

columns_count : (i j : ℕ) (e : Echelon) → length e.done ≡ length e.pivots → length (columns i j e).done ≡ length (columns i j e).pivots
unfolding columns
columns_count zero j e h = h
columns_count (suc i) j e h = columns_count i (suc j) _ (step_count j e (find_pivot j e.rest) h)

pub echelon_count : (i : ℕ) (rows : Matrix) → length (echelon i rows).done ≡ length (echelon i rows).pivots
unfolding echelon
echelon_count i rows = columns_count i 0 _ refl

-- a public key is the echelon form behind its first m·t columns, which have the pivots
pub record FromEchelon (k : Key) (rows : Matrix) : Type 0 where
  pub pivots : (echelon k.n (parity_rows k)).pivots ≡ from 0 (k.m * k.t)
  pub columns : rows ≡ map (drop (k.m * k.t)) (echelon k.n (parity_rows k)).done

pub public_echelon : (k : Key) (rows : Matrix) → public_key k ≡ some rows → FromEchelon k rows
unfolding public_key
public_echelon k rows h = go (same e.pivots (from 0 mt)) refl h
  where
    e : Echelon
    e = echelon k.n (parity_rows k)

    mt : ℕ
    mt = k.m * k.t

    go : (b : Bool) → same e.pivots (from 0 mt) ≡ b
        → elim b as (λ x. Option Matrix) [ true ↦ some (map (drop mt) e.done) | false ↦ none ] ≡ some rows → FromEchelon k rows
    go true s h = record { pivots = same_eq e.pivots (from 0 mt) s; columns = cc }
    go false s h = let z : ◌≡◌ {A = ℕ} 0 1 = cc in absurd (omega arith)

-- by the test of the pivots: there is none, or it is those columns
module _ (k : Key) where
  pub public_none : same (echelon k.n (parity_rows k)).pivots (from 0 (k.m * k.t)) ≡ false → public_key k ≡ none
  unfolding public_key
  public_none h = rw (public_key, h)

  pub public_some : same (echelon k.n (parity_rows k)).pivots (from 0 (k.m * k.t)) ≡ true
      → public_key k ≡ some (map (drop (k.m * k.t)) (echelon k.n (parity_rows k)).done)
  unfolding public_key
  public_some h = rw (public_key, h)

module _ (k : Key) (rows : Matrix) (p : public_key k ≡ some rows) where
  pub public_length : length rows ≡ k.m * k.t
  public_length =
      let f = public_echelon k rows p in
      let e : Echelon = echelon k.n (parity_rows k) in
      ap length f.columns ∙ length-map e.done (drop (k.m * k.t)) ∙ echelon_count k.n (parity_rows k)
      ∙ ap length f.pivots ∙ length_from 0 (k.m * k.t)

  pub public_rows : length k.support ≡ k.n → Rows (k.n - k.m * k.t) rows
  public_rows h =
      let f = public_echelon k rows p in
      subst (Rows (k.n - k.m * k.t)) (sym f.columns) (rows_drop (k.m * k.t) (echelon-bits k.n (rows_parity_rows k h)).done)

  pub row_capsule : length k.support ≡ k.n → k.m * k.t ≤ k.n → {e : List ℕ} → Row k.n e → Row (k.m * k.t) (locked rows e)
  row_capsule h l {e} w =
      subst (λ (i : ℕ). Row i (locked rows e)) public_length (row_locked (public_rows h) w (rw public_length l))
