-- There is no public key exactly when the first m·t columns of H are dependent. The first column without a pivot is a sum of
-- the columns before it. Assumes nothing.
use mathlib.Core.Path.{◌≡◌, refl, sym, ap, ◌∙◌, subst}
use mathlib.Core.Logic.{◌≢◌, ◌↔◌, ◌⊎◌, inl, inr}
use mathlib.Core.Bool.{Bool, true, false, cond}
use mathlib.Core.List.{List, [], ◌∷◌, ◌++◌, map, append_assoc}
use mathlib.Core.Option.{Option, none, some}
use Prim.Native.Nat.{ℕ, zero, suc, ◌+◌, ◌-◌, ◌*◌, ◌≤◌}
use native.Mathlib.Nat.{zero-add, add-zero, add-suc, suc-ne-zero}
use native.Mathlib.Omega.{arith}
use lib.Dec.{eqb}
use lib.ListN.{length, get_or, drop, replicate, length-map, length-append, replicate-append-replicate}
use lib.Seq.{drop_at}
use borrow.Author.Tests.{eqb-false}
use Rattle.bits.specs.Bits.{Row, on, from, ones, dot}
use Rattle.bits.proofs.Pack.{row_lt, row_length, row_zeros, row_append}
use Rattle.bits.proofs.Ones.{ones-append, ones_zeros}
use Rattle.bits.proofs.Product.{dot_zeros}
use Rattle.poly.proofs.Laws.{eq_same}
use Rattle.key.specs.Keys.{Key}
use Rattle.code.specs.Code.{in_code, parity_rows}
use Rattle.code.specs.PublicKey.{Matrix, Pivot, missing, pivot, with_row, find_pivot, Echelon, with_pivot, columns, echelon, public_key, dependent}
use Rattle.code.proofs.Kernel.{Rows, Kernel, InKernel, step_back, rows_parity_rows, length-parity_rows}
use Rattle.code.proofs.Kernel as kernel
use Rattle.code.proofs.Parity.{code_kernel}
use Rattle.code.proofs.PublicKey.{rows_drop, public_length}
use Rattle.code.proofs.Identity.{zeros_end, zeros_from, EachZeros, each, from_end, dot_behind, Reduced, start-reduced, step-reduced, reduced-length, reduced-product, step-total, columns_none, zeros_kernel, locked-code}
use Rattle.code.proofs.Identity as identity
use Rattle.code.proofs.Parts.{locked-filled, locked_own, row_products}

-- a column without a pivot is 0 in the rows that are left
missing_zeros : {n : ℕ} {cs : List ℕ} {rs : Matrix} (j : ℕ) → Rows n rs → EachZeros cs rs → find_pivot j rs ≡ missing → EachZeros (cs ++ (j ∷ [])) rs
unfolding find_pivot with_row
missing_zeros j kernel.none identity.none h = identity.none
missing_zeros {cs} j (kernel.row {r = r} {rs = rs} b m) (each z zs) h =
    go (eqb (get_or r j 0) 1) refl (find_pivot j rs) (missing_zeros j m zs) h
  where
    go : (t : Bool) → eqb (get_or r j 0) 1 ≡ t → (q : Pivot) → (q ≡ missing → EachZeros (cs ++ (j ∷ [])) rs)
        → cond t (pivot r rs) (with_row r q) ≡ missing → EachZeros (cs ++ (j ∷ [])) (r ∷ rs)
    go true e q f h = let x : ◌≡◌ {A = ℕ} 0 1 = cc in absurd (omega arith)
    go false e missing f h = each (zeros_end j z (omega (arith, row_lt b j, eqb-false (get_or r j 0) 1 e))) (f refl)
    go false e (pivot p o) f h = let x : ◌≡◌ {A = ℕ} 0 1 = cc in absurd (omega arith)

-- rows that are 0 in the first m columns, and a word that is 0 behind them
zeros_product : (m z : ℕ) (c : List ℕ) {rs : Matrix} → EachZeros (from 0 m) rs → drop m c ≡ replicate z 0 → Kernel c rs
zeros_product m z c identity.none e = kernel.none
zeros_product m z c (each {r = r} h hs) e =
    kernel.zero_row
    (dot_behind m r c (λ j l. ap (λ (i : ℕ). get_or r i 0) (sym (zero-add j)) ∙ zeros_from 0 m h j l)
    ∙ ap (dot (drop m r)) e ∙ dot_zeros (drop m r) z)
    (zeros_product m z c hs e)

-- some of the first m columns, at least one, have the sum 0; z columns lie behind them
record Combination (z m : ℕ) (e : Echelon) : Type 0 where
  chosen : List ℕ
  bits : Row m chosen
  any : ones chosen ≢ 0
  sum : InKernel (chosen ++ replicate z 0) e

-- columns 0 to i - 1 have the pivots, and column i has none: it is the sum of those before it in whose rows it has a one
module _ {n : ℕ} (z l i : ℕ) (e : Echelon) (b : Reduced n e) (p : e.pivots ≡ from 0 i) where
  abbrev tail : List ℕ
  tail = 1 ∷ replicate (l + z) 0

  abbrev front : List ℕ
  front = map (λ r. dot r tail) (map (drop i) e.done)

  done_length : length (map (drop i) e.done) ≡ i
  done_length = length-map e.done (drop i) ∙ reduced-length i b p

  front_length : length front ≡ i
  front_length = length-map (map (drop i) e.done) (λ r. dot r tail) ∙ done_length

  done_kernel : Kernel (front ++ tail) e.done
  done_kernel =
      zeros_kernel (front ++ tail) e.done
      (sym (reduced-product i b p (front ++ tail) (omega (arith, length-append front tail, front_length)))
      ∙ locked_own (map (drop i) e.done) tail
      ∙ ap (λ (j : ℕ). replicate j 0) (length-map e.done (drop i)))

  behind : drop (suc i) (front ++ tail) ≡ replicate (l + z) 0
  behind =
      ap (drop (suc i)) (sym (append_assoc front (1 ∷ []) (replicate (l + z) 0)))
      ∙ drop_at (front ++ (1 ∷ [])) (replicate (l + z) 0) (suc i) (omega (arith, length-append front (1 ∷ []), front_length))

  rest_kernel : find_pivot i e.rest ≡ missing → Kernel (front ++ tail) e.rest
  rest_kernel h =
      zeros_product (suc i) (l + z) (front ++ tail)
      (subst (λ (cs : List ℕ). EachZeros cs e.rest) (ap (λ (cs : List ℕ). cs ++ (i ∷ [])) p ∙ from_end i) (missing_zeros i b.bits.rest b.rest h))
      behind

  whole : (front ++ (1 ∷ replicate l 0)) ++ replicate z 0 ≡ front ++ tail
  whole =
      append_assoc front (1 ∷ replicate l 0) (replicate z 0)
      ∙ ap (λ (x : List ℕ). front ++ (1 ∷ x)) (replicate-append-replicate l z 0)

  no_pivot : find_pivot i e.rest ≡ missing → Combination z (i + suc l) e
  unfolding ones
  no_pivot h =
      record {
        chosen = front ++ (1 ∷ replicate l 0);
        bits = rw done_length at (row_append (row_products (rows_drop i b.bits.done) (on (row_zeros (l + z)))) (on (row_zeros l)));
        any = λ x. omega (arith, ones-append front (1 ∷ replicate l 0));
        sum = subst (λ (c : List ℕ). InKernel c e) (sym whole) (record { done = done_kernel; rest = rest_kernel h });
      }

empty : (rs : Matrix) → length rs ≡ 0 → rs ≡ []
empty [] h = refl
empty (r ∷ rs) h = absurd (suc-ne-zero (length rs) h)

-- of m rows: the first m columns have the pivots, or some of them have the sum 0
pivots_or_sum : {n : ℕ} (z l i m : ℕ) (e : Echelon) → i + l ≡ m → length e.done + length e.rest ≡ m → Reduced n e → e.pivots ≡ from 0 i
    → ((columns (z + l) i e).pivots ≡ from 0 m) ⊎ Combination z m e
unfolding columns with_pivot
pivots_or_sum z zero i m e s t b p =
    let f : length e.done ≡ i = reduced-length i b p in
    let r : e.rest ≡ [] = empty e.rest (omega arith) in
    inl (ap (λ (x : Echelon). x.pivots) (columns_none (z + 0) i e r) ∙ p ∙ ap (from 0) (sym (add-zero i) ∙ s))
pivots_or_sum {n} z (suc l) i m e s t b p = rw (add-suc z l) (go (find_pivot i e.rest) refl (λ x u c q. pivots_or_sum z l (suc i) m x (omega arith) u c q))
  where
    go : (q : Pivot) → find_pivot i e.rest ≡ q
        → ((x : Echelon) → length x.done + length x.rest ≡ m → Reduced n x → x.pivots ≡ from 0 (suc i)
        → ((columns (z + l) (suc i) x).pivots ≡ from 0 m) ⊎ Combination z m x)
        → ((columns (z + l) (suc i) (with_pivot i e q)).pivots ≡ from 0 m) ⊎ Combination z m e
    go missing h f = inr (subst (λ (j : ℕ). Combination z j e) s (no_pivot z l i e b p h))
    go (pivot r o) h f =
        back (f (with_pivot i e (pivot r o)) (step-total i e (pivot r o) h ∙ t) (step-reduced i e (pivot r o) h b)
        (ap (λ (cs : List ℕ). cs ++ (i ∷ [])) p ∙ from_end i))
      where
        back : ((columns (z + l) (suc i) (with_pivot i e (pivot r o))).pivots ≡ from 0 m) ⊎ Combination z m (with_pivot i e (pivot r o))
            → ((columns (z + l) (suc i) (with_pivot i e (pivot r o))).pivots ≡ from 0 m) ⊎ Combination z m e
        back (inl x) = inl x
        back (inr c) =
            inr (record { chosen = c.chosen; bits = c.bits; any = c.any; sum = step_back i e (pivot r o) h b.bits c.sum })

-- the word with v in the first m·t places and 0 in the others
abbrev pub in_front : Key → List ℕ → List ℕ
in_front k v = v ++ replicate (k.n - k.m * k.t) 0

-- the first m·t columns of H are dependent: some of them, at least one, have the sum 0
pub record Dependent (k : Key) : Type 0 where
  pub chosen : List ℕ
  pub bits : Row (k.m * k.t) chosen
  pub any : ones chosen ≢ 0
  pub code : in_code k (in_front k chosen) ≡ true

-- there is a public key where the first m·t columns have the pivots
public_some : (k : Key) → (echelon k.n (parity_rows k)).pivots ≡ from 0 (k.m * k.t)
    → public_key k ≡ some (map (drop (k.m * k.t)) (echelon k.n (parity_rows k)).done)
unfolding public_key
public_some k p =
    let e : Echelon = echelon k.n (parity_rows k) in
    ap (λ (b : Bool). elim b as (λ x. Option Matrix) [ true ↦ some (map (drop (k.m * k.t)) e.done) | false ↦ none ])
    (eq_same e.pivots (from 0 (k.m * k.t)) p)

module _ (k : Key) (h : length k.support ≡ k.n) (l : k.m * k.t ≤ k.n) where
  row_in_front : {v : List ℕ} → Row (k.m * k.t) v → Row k.n (in_front k v)
  row_in_front r = let e : k.m * k.t + (k.n - k.m * k.t) ≡ k.n = omega arith in rw e at (row_append r (row_zeros (k.n - k.m * k.t)))

  -- the columns that v chooses have the sum 0: the product of each row with v, and 0 behind it, is 0
  pub dependent_kernel : {v : List ℕ} → Row (k.m * k.t) v → (in_code k (in_front k v) ≡ true) ↔ Kernel (in_front k v) (parity_rows k)
  dependent_kernel r = code_kernel k (row_in_front r)

  none_dependent : public_key k ≡ none → Dependent k
  unfolding echelon from
  none_dependent p =
      go (pivots_or_sum z mt 0 mt start (zero-add mt) (zero-add (length (parity_rows k)) ∙ length-parity_rows k) (start-reduced (rows_parity_rows k h)) refl)
    where
      mt : ℕ
      mt = k.m * k.t

      z : ℕ
      z = k.n - mt

      start : Echelon
      start = record { done = []; rest = parity_rows k; pivots = [] }

      go : ((columns (z + mt) 0 start).pivots ≡ from 0 mt) ⊎ Combination z mt start → Dependent k
      go (inl x) =
          let e : k.n ≡ z + mt = omega arith in
          let q = public_some k (ap (λ (j : ℕ). (columns j 0 start).pivots) e ∙ x) in
          let y : ◌≡◌ {A = ℕ} 0 1 = cc in absurd (omega arith)
      go (inr c) = record { chosen = c.chosen; bits = c.bits; any = c.any; code = (dependent_kernel c.bits).1 c.sum.rest }

  dependent_none : Dependent k → public_key k ≡ none
  dependent_none d = go (public_key k) refl
    where
      go : (o : Option Matrix) → public_key k ≡ o → o ≡ none
      go none p = refl
      go (some rows) p =
          let e : d.chosen ≡ replicate (k.m * k.t) 0 =
          sym (locked-filled (k.n - k.m * k.t) d.chosen rows (row_length d.bits ∙ sym (public_length k rows p)))
          ∙ (locked-code k rows p h l (row_in_front d.bits)).0 d.code in
          absurd (d.any (ap ones e ∙ ones_zeros (k.m * k.t)))

  -- there is no public key exactly when the first m·t columns of H are dependent
  pub dependent-combination : (public_key k ≡ none) ↔ Dependent k
  dependent-combination = (none_dependent, dependent_none)

  -- the same for the condition of publish's number 23
  pub dependent-columns : (dependent k ≡ true) ↔ Dependent k
  unfolding dependent
  dependent-columns = (λ e. none_dependent (go (public_key k) e), λ d. rw (dependent_none d, dependent))
    where
      go : (o : Option Matrix) → elim o as (λ x. Bool) [ none ↦ true | some rows ↦ false ] ≡ true → o ≡ none
      go none e = refl
      go (some rows) e = let x : ◌≡◌ {A = ℕ} 0 1 = cc in absurd (omega arith)
