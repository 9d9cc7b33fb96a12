-- The columns of an echelon form: those after the last row's change nothing, and one without a pivot stays without. Assumes nothing.
use mathlib.Core.Path.{◌≡◌, refl, sym, ap, ap₂, ◌∙◌}
use mathlib.Core.Bool.{Bool, true, false}
use mathlib.Core.List.{List, [], ◌∷◌}
use Prim.Native.Nat.{ℕ, zero, suc, ◌+◌, ◌-◌, ◌*◌, ◌≤◌, ◌<◌}
use native.Mathlib.Nat.{zero-mul, sub-zero, sub_self}
use native.Mathlib.Numerals.{add-one}
use native.Mathlib.Omega.{arith}
use lib.ListN.{length, get_or, drop, length-append, get_or-append}
use lib.Seq.{get_or_at}
use Rattle.bits.specs.Bits.{from, bytes_for}
use Rattle.bits.proofs.Lists.{length_from, from_at}
use Rattle.poly.specs.Polynomials.{same}
use Rattle.poly.proofs.Laws.{same_eq, eq_same}
use Rattle.code.specs.PublicKey.{Matrix, Pivot, missing, pivot, find_pivot, Echelon, with_pivot, columns, echelon}
use Rattle.code.specs.Lock.{rows_of}
use Rattle.code.proofs.Identity.{columns_none}
use Rattle.elimination.specs.Elimination.{stage}

-- one column more
pub columns-next : (i n : ℕ) (e : Echelon) → i < n → columns (n - i) i e ≡ columns (n - (i + 1)) (i + 1) (with_pivot i e (find_pivot i e.rest))
unfolding columns
columns-next i n e h =
    let k : n - i ≡ suc (n - (i + 1)) = omega arith in
    ap (λ (l : ℕ). columns l i e) k
    ∙ ap (λ (j : ℕ). columns (n - (i + 1)) j (with_pivot i e (find_pivot i e.rest))) (sym (add-one i))

-- the pivots there are stay in their places, and those that columns from j on add are j or more
with_length : (j : ℕ) (e : Echelon) (q : Pivot) → length e.pivots ≤ length (with_pivot j e q).pivots
unfolding with_pivot
with_length j e missing = omega arith
with_length j e (pivot p others) = omega (arith, length-append e.pivots (j ∷ []))

with_at : (j : ℕ) (e : Echelon) (q : Pivot) (i : ℕ) → i < length e.pivots → get_or (with_pivot j e q).pivots i 0 ≡ get_or e.pivots i 0
unfolding with_pivot
with_at j e missing i h = refl
with_at j e (pivot p others) i h = get_or-append e.pivots (j ∷ []) 0 i h

columns-at : (k j : ℕ) (e : Echelon) (i : ℕ) → i < length e.pivots → get_or (columns k j e).pivots i 0 ≡ get_or e.pivots i 0
unfolding columns
columns-at zero j e i h = refl
columns-at (suc k) j e i h =
    let q : Pivot = find_pivot j e.rest in
    columns-at k (suc j) (with_pivot j e q) i (omega (arith, with_length j e q)) ∙ with_at j e q i h

columns_later : (k j : ℕ) (e : Echelon) (i : ℕ) → length e.pivots ≡ i → i < length (columns k j e).pivots → j ≤ get_or (columns k j e).pivots i 0
unfolding columns with_pivot
columns_later zero j e i h l = absurd (omega arith)
columns_later (suc k) j e i h l = go (find_pivot j e.rest) l (columns_later k (suc j) e i h)
  where
    go : (q : Pivot) → i < length (columns k (suc j) (with_pivot j e q)).pivots
        → (i < length (columns k (suc j) e).pivots → suc j ≤ get_or (columns k (suc j) e).pivots i 0)
        → j ≤ get_or (columns k (suc j) (with_pivot j e q)).pivots i 0
    go missing l rec = omega (arith, rec l)
    go (pivot p others) l rec =
        omega (
          arith,
          columns-at k (suc j) (with_pivot j e (pivot p others)) i (omega (arith, length-append e.pivots (j ∷ []))),
          get_or_at e.pivots j [] 0 i h,
        )

-- the columns of a workspace: none is done, all of the first `rows` are done, or column i has no pivot
pub columns-start : (rows n : ℕ) (w : List ℕ) → columns (n - 0) 0 (stage 0 rows n w) ≡ echelon n (rows_of rows n w)
unfolding stage rows_of from echelon
columns-start rows n w =
    ap₂ (λ (k : ℕ) (r : Matrix). columns k 0 (record { done = []; rest = r; pivots = [] })) (sub-zero n)
    (ap₂ (λ (k b : ℕ). rows_of k n (drop b w)) (sub-zero rows) (zero-mul (bytes_for n)))

rows_none : (n : ℕ) (w : List ℕ) → rows_of 0 n w ≡ []
unfolding rows_of from
rows_none n w = refl

columns_end : (k rows n : ℕ) (w : List ℕ) → columns k rows (stage rows rows n w) ≡ stage rows rows n w
unfolding stage
columns_end k rows n w =
    let u : List ℕ = drop (rows * bytes_for n) w in
    columns_none k rows (stage rows rows n w) (ap (λ (i : ℕ). rows_of i n u) (sub_self rows) ∙ rows_none n u)

module _ (rows n : ℕ) (e : Echelon) where
  pub reduced : (w : List ℕ) → columns (n - rows) rows (stage rows rows n w) ≡ e → (true ≡ same e.pivots (from 0 rows)) × (rows_of rows n w ≡ e.done)
  unfolding stage
  reduced w h =
      let f : stage rows rows n w ≡ e = sym (columns_end (n - rows) rows n w) ∙ h in
      (sym (eq_same e.pivots (from 0 rows) (sym (ap (λ (x : Echelon). x.pivots) f))), ap (λ (x : Echelon). x.done) f)

  pub stopped : (i : ℕ) (w : List ℕ) → i < rows → columns (n - (i + 1)) (i + 1) (stage i rows n w) ≡ e → false ≡ same e.pivots (from 0 rows)
  unfolding stage
  stopped i w h f = go (same e.pivots (from 0 rows)) refl
    where
      go : (t : Bool) → same e.pivots (from 0 rows) ≡ t → false ≡ t
      go false g = refl
      go true g =
          let p : (columns (n - (i + 1)) (i + 1) (stage i rows n w)).pivots ≡ from 0 rows = ap (λ (x : Echelon). x.pivots) f ∙ same_eq e.pivots (from 0 rows) g in
          let l : length (columns (n - (i + 1)) (i + 1) (stage i rows n w)).pivots ≡ rows = ap length p ∙ length_from 0 rows in
          absurd (omega (
            arith,
            columns_later (n - (i + 1)) (i + 1) (stage i rows n w) i (length_from 0 i) (omega arith),
            ap (λ (x : List ℕ). get_or x i 0) p,
            from_at 0 rows i 0 h,
          ))
